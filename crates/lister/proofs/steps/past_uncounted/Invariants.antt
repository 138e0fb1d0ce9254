-- `lister::steps::past_uncounted` meets its contract. The loop's invariant: no reply stands at the starts from `from` on and before
-- `at`. The measure is what is left of the bytes.
-- Assumes nothing.
use Prim.Native.Nat.{◌-◌}
use lib.ListN.{length}
use Rattle.lister.specs.GoodLengths.{Passes}
use Rattle.lister.proofs.steps.past_uncounted.Given as goal

abbrev pub invariant-loop-at : goal.invariant-loop-at
invariant-loop-at l = Passes 1 l.s l.from l.at

abbrev pub decreases-loop-at : goal.decreases-loop-at
decreases-loop-at l = length l.s - l.at
