-- `lister::lists::fill` meets its contract. The loop's invariant: n starts are found, and those of the frames
-- left from `at` on are to come. The measure is what is left of the capture.
-- Assumes nothing.
use Prim.Native.Nat.{◌-◌}
use lib.ListN.{length}
use Rattle.lister.proofs.Filling.{Filled}
use Rattle.lister.proofs.lists.fill.Given as goal

abbrev pub invariant-loop-at : goal.invariant-loop-at
invariant-loop-at g l = Filled l.family l.capture l.initial.starts l.starts l.at l.n

abbrev pub decreases-loop-at : goal.decreases-loop-at
decreases-loop-at g l = length l.capture - l.at
