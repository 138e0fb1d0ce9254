-- `search::packet_stop` meets its contract. The loop's invariant is the walk so far. The measure is what is left of the bytes.
-- Assumes nothing.
use Prim.Native.Nat.{◌-◌}
use lib.ListN.{length}
use Rattle.search.specs.Sought.{Walks}
use Rattle.search.proofs.packet_stop.Given as goal

abbrev pub invariant-loop-at : goal.invariant-loop-at
invariant-loop-at l = Walks l.family l.s l.from l.far l.at l.reach

abbrev pub decreases-loop-at : goal.decreases-loop-at
decreases-loop-at l = length l.s - l.at
