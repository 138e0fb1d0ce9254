-- `lister::steps::bracketed_step` meets its contract: no frame starts at another byte than an opening one, and behind an opening one
-- with no frame none starts in its run.
-- Assumes nothing.
use Prim.Native.Nat.{ℕ, ◌+◌, ◌-◌, min, ◌<◌}
use mathlib.Core.Path.{◌≡◌, sym, ap, ◌∙◌}
use native.Mathlib.Nat.{add-zero}
use native.Mathlib.Omega.{arith}
use mathlib.Core.List.{List}
use lib.ListN.{length, take, drop, get_or, length-drop}
use lib.Seq.{drop-drop, get_or-drop}
use Rattle.stream_rules.specs.Heads.{brackets_of, inner_run}
use Rattle.stream_rules.specs.declared.Brackets.{Brackets}
use Rattle.stream_laws.proofs.Bracketed.{bracketed}
use Rattle.stream_laws.proofs.Lists.{whole_rest}
use Rattle.lister.specs.GoodLengths.{good_length, Counts}
use Rattle.lister.proofs.Skips.{over_byte, over_none, over_run, further}
use Rattle.lister.proofs.steps.bracketed_step.Goals as goal

-- the run behind `at`
counted : (family : ℕ) (k : Brackets) (its : k ≡ brackets_of family) (s : List ℕ) (at : ℕ) → at < length s → get_or s at 0 ≡ k.opening → (n : ℕ)
    → n ≡ min (length (inner_run k (take (length s - (at + 1)) (drop (at + 1) s)))) (k.most + 1) → Counts family n (drop at s)
counted family k its s at there opening n counts = record {
  some = omega (arith, length-drop at s);
  opens = get_or-drop at s 0 0
      ∙ ap (λ (i : ℕ). get_or s i 0) (add-zero at)
      ∙ opening
      ∙ ap (λ (b : Brackets). b.opening) its;
  counted = counts
      ∙ ap (λ (l : List ℕ). min (length (inner_run k l)) (k.most + 1)) (whole_rest s (at + 1) ∙ sym (drop-drop 1 at s))
      ∙ ap (λ (b : Brackets). min (length (inner_run b (drop 1 (drop at s)))) (b.most + 1)) its;
}

pub returns-then-s-at : goal.returns-then-s-at
returns-then-s-at c = (
  omega (arith, c.past_unopened.ensures.on),
  further _ _ _ _ _ (over_byte _ (bracketed _ c.requires.0.0) _ _ c.requires.1 (λ e. c.if-s-at.true (e ∙ sym (ap (λ (b : Brackets). b.opening) c.brackets_of-k.ensures)))) c.past_unopened.ensures,
)

pub returns-then-not-may_begin : goal.returns-then-not-may_begin
returns-then-not-may_begin c = (
  omega arith,
  over_none _ _ _ c.requires.1 (c.may_begin.ensures c.if-not-may_begin.true ∙ ap (good_length c.args.family) (whole_rest c.args.s.now c.args.at)),
)

pub bracketed_length-requires : goal.bracketed_length-requires
bracketed_length-requires c = (
  c.requires.0,
  c.brackets_of-k.ensures,
  rw (whole_rest c.args.s.now c.args.at) (counted _ _ c.brackets_of-k.ensures c.args.s.now c.args.at c.requires.1 c.if-s-at.false _ c.inner_bytes-run.ensures),
)

pub returns-in-None : goal.returns-in-None
returns-in-None c =
    let run = counted _ _ c.brackets_of-k.ensures c.args.s.now c.args.at c.requires.1 c.if-s-at.false _ c.inner_bytes-run.ensures in (
      omega arith,
      over_run _ (bracketed _ c.requires.0.0) _ _ c.requires.1 c.inner_bytes-run.result (omega (arith, run.counted))
          (c.in-None.ensures ∙ ap (good_length c.args.family) (whole_rest c.args.s.now c.args.at)),
    )
