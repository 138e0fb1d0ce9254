-- `lister::steps::past_unopened` meets its contract. The loop's invariant: no frame stands at the starts from `from` on and before
-- `at`.
-- Assumes nothing.
use Rattle.lister.specs.GoodLengths.{Passes}
use Rattle.lister.proofs.steps.past_unopened.Given as goal

abbrev pub invariant-loop-at : goal.invariant-loop-at
invariant-loop-at l = Passes l.family l.s l.from l.at
