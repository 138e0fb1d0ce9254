-- `captures::spans::find` meets its contract. The loop's invariant: what is wanted is the first wanted of the frames that are left.
-- The measure is what is left of the capture.
-- Assumes nothing.
use Prim.Native.Nat.{◌-◌}
use mathlib.Core.Path.{◌≡◌}
use lib.ListN.{length}
use Rattle.search.proofs.Walk.{left}
use Rattle.captures.specs.Finds.{first_wanted, next_in}
use Rattle.captures.proofs.spans.find.Given as goal

abbrev pub invariant-loop-first : goal.invariant-loop-first
invariant-loop-first l = next_in l.family l.capture l.place l.reports ≡ first_wanted l.reports (left l.family l.capture l.at)

abbrev pub decreases-loop-first : goal.decreases-loop-first
decreases-loop-first l = length l.capture - l.at
