-- `search::seek` meets its contract. The loop's invariant: the walk from the first start on has come to the stop. The measure is
-- what is left of the bytes.
-- Assumes nothing.
use Prim.Native.Nat.{◌-◌}
use lib.ListN.{length}
use Rattle.search.specs.Sought.{Stops}
use Rattle.search.proofs.seek.Given as goal

abbrev pub invariant-loop-stop : goal.invariant-loop-stop
invariant-loop-stop l = Stops l.family l.s 0 0 l.stop

abbrev pub decreases-loop-stop : goal.decreases-loop-stop
decreases-loop-stop l = length l.s - l.stop.at
