-- What is left to show of `alpha_writer::put_decimals`, with the invariants beside. Assumes nothing.
use Prim.Native.Nat.{◌+◌}
use mathlib.Core.Path.{refl, ap, ◌∙◌}
use mathlib.Core.Logic.{inl, inr, ⊎_elim}
use native.Mathlib.Omega.{arith}
use Rattle.pens.specs.Pens.{laid}
use Rattle.alpha_writer.specs.Parts.{decimal_fields}
use Rattle.alpha_writer.proofs.Decimals.{Left, next, all_laid}
use Rattle.alpha_writer.proofs.put_decimals.Goals as goal
use Rattle.alpha_writer.proofs.put_decimals.Goals.{After-put_field}

pub loop-width-init : goal.loop-width-init
loop-width-init c =
    let r = c.requires in
    let widths = ap (λ i. i.a.rest.now) c.into_iter-width-iterator.ensures.into_iter_gives ∙ ap (λ i. i.rest.now) c.zip-width-items.ensures.first ∙ c.iter.ensures.rest in
    let numbers = ap (λ i. i.b.rest.now) c.into_iter-width-iterator.ensures.into_iter_gives ∙ c.zip-width-items.ensures.second.0 in
    ((tt, tt), tt, refl, rw (widths, numbers) (record { fits = r.fits; room = r.room; rest = refl }))

-- after the field
after : (c : After-put_field)
    → let a = c.args in
    let l = c.loop-width in
    Left (l.place + (c.in-Some.width.now + 1)) c.next.new.self.a.rest.now c.next.new.self.b.rest.now c.put_field.new.out
    (laid a.at (decimal_fields a.widths.now a.numbers.now) a.out.now)
after c =
    let s = c.in-Some.ensures.steps in
    next (rw (s.0, s.1) at c.loop-width.invariant.3) c.put_field.ensures

pub overflow_add-place : goal.overflow_add-place
overflow_add-place c = let l = after (goal.at.overflow_add-place c).After-put_field in omega arith

pub overflow_add-place-in-loop-width : goal.overflow_add-place-in-loop-width
overflow_add-place-in-loop-width c = let l = after (goal.at.overflow_add-place-in-loop-width c).After-put_field in omega arith

pub loop-width-preserved : goal.loop-width-preserved
loop-width-preserved c = ((tt, tt), tt, omega arith, after (goal.at.loop-width-preserved c).After-put_field)

pub returns : goal.returns
returns c =
    all_laid c.loop-width.place _ _ (⊎_elim (λ p. inl p.1.0) (λ p. inr p.1.0) c.in-None.ensures.steps) c.loop-width.invariant.3
