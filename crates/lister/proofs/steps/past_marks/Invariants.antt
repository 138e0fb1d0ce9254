-- `lister::steps::past_marks` meets its contract. The loop's invariant: no command stands at the starts from `from` on and before
-- `at`.
-- Assumes nothing.
use Rattle.lister.specs.GoodLengths.{Passes}
use Rattle.lister.proofs.steps.past_marks.Given as goal

abbrev pub invariant-loop-at : goal.invariant-loop-at
invariant-loop-at l = Passes 3 l.s l.from l.at
