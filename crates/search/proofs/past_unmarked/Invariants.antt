-- `search::past_unmarked` meets its contract. The loop's invariant: from the place on, no byte passed is a mark. The
-- measure is what is left of the bytes.
-- Assumes nothing.
use Prim.Native.Nat.{◌-◌, ◌≤◌}
use lib.ListN.{length}
use Rattle.search.specs.Sought.{Unmarked}
use Rattle.search.proofs.past_unmarked.Given as goal

abbrev pub invariant-loop-at : goal.invariant-loop-at
invariant-loop-at l = (l.from ≤ l.at) × (l.at ≤ length l.s) × Unmarked l.mark l.s l.from l.at

abbrev pub decreases-loop-at : goal.decreases-loop-at
decreases-loop-at l = length l.s - l.at
