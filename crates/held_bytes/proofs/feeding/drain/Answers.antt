-- `held_bytes::feeding::drain` meets its contract: the first good frame of the held bytes is what a look at close finds.
-- Assumes nothing.
use Prim.Native.Nat.{ℕ, ◌+◌, ◌≤◌}
use mathlib.Core.Path.{sym, ap, ◌∙◌}
use mathlib.Core.List.{List}
use native.Mathlib.Omega.{arith}
use lib.ListN.{take}
use Rattle.search.specs.Sought.{first_from}
use Rattle.stream_rules.specs.Streams.{held_of}
use Rattle.stream_laws.proofs.States.{longest_fits}
use Rattle.held_bytes.proofs.Closing.{Drained, drained, held_long, drained_answer, emptied_answer}
use Rattle.held_bytes.proofs.feeding.drain.Goals as goal
use Rattle.held_bytes.proofs.feeding.drain.Goals.{In-Some}

-- the frame that was found, and that it is there
found : (c : In-Some) → Drained c.args.reader.now.family (held_of c.args.reader.now) c.in-Some.first.start c.in-Some.first.length c.in-Some.first.frame
found c = drained _ _ _ (ap (λ (l : List ℕ). first_from c.args.reader.now.family l 0) (sym (c.text.ensures.content ∙ ap (λ (n : ℕ). take n c.args.reader.now.held) c.from-count.ensures)) ∙ sym c.in-Some.ensures)

there : (c : In-Some) → c.in-Some.first.start + c.in-Some.first.length ≤ c.args.reader.now.count
there c = omega (arith, (found c).there, held_long c.args.reader.now c.requires (omega arith))

pub overflow_add-behind : goal.overflow_add-behind
overflow_add-behind c = omega (arith, there (goal.at.overflow_add-behind c).In-Some)

pub overflow_sub-left : goal.overflow_sub-left
overflow_sub-left c = omega (arith, there (goal.at.overflow_sub-left c).In-Some)

pub hand_out-requires : goal.hand_out-requires
hand_out-requires c =
    let inside = there (goal.at.hand_out-requires c).In-Some in
    let few = longest_fits c.args.reader.now.family in
    (omega (arith, c.requires, few), omega (arith, inside))

pub returns-in-Some : goal.returns-in-Some
returns-in-Some c =
    c.hand_out.ensures
    ∙ rw c.from-count.ensures
    (drained_answer c.args.reader.now c.requires (omega arith) _ _ _ (found (goal.at.returns-in-Some c).In-Some) c.keep_part.new.places (rw c.from-count.ensures at c.keep_part.ensures))

pub returns-in-None : goal.returns-in-None
returns-in-None c =
    let r = c.args.reader.now in
    c.done.ensures
    ∙ rw c.from-count.ensures
    (emptied_answer r c.requires (omega arith) (ap (λ (l : List ℕ). first_from r.family l 0) (sym (c.text.ensures.content ∙ ap (λ (n : ℕ). take n r.held) c.from-count.ensures)) ∙ sym c.in-None.ensures))
