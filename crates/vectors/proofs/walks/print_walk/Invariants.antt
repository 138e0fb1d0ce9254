-- The loop of `vectors::walks::print_walk`: the reader holds the capture that was passed, and goes on with each frame.
-- Assumes nothing.
use Rattle.std.proofs.Common.{◌≡◌, ◌-◌, length}
use Rattle.vectors.proofs.walks.print_walk.Given as goal

abbrev pub invariant-loop-reader : goal.invariant-loop-reader
invariant-loop-reader g l = l.reader.capture.now ≡ l.capture

abbrev pub decreases-loop-reader : goal.decreases-loop-reader
decreases-loop-reader g l = length l.capture - l.reader.place
