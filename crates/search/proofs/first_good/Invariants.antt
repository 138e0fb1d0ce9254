-- `search::first_good` meets its contract. The loop's invariant: no start from `from` on and before the stop is good, and what
-- stands at the stop. The measure is what is left of the bytes.
-- Assumes nothing.
use Prim.Native.Nat.{◌-◌}
use lib.ListN.{length}
use Rattle.stream_rules.specs.Heads.{head}
use Rattle.stream_laws.proofs.Walks.{Passed}
use Rattle.search.specs.Sought.{AtStop}
use Rattle.search.proofs.first_good.Given as goal

abbrev pub invariant-loop-stop : goal.invariant-loop-stop
invariant-loop-stop l = Passed (head l.family) l.s l.from l.stop.at × AtStop l.family l.s l.stop

abbrev pub decreases-loop-stop : goal.decreases-loop-stop
decreases-loop-stop l = length l.s - l.stop.at
