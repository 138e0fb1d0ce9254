-- The loop of `vectors::panel::print_drained`: the run has come to the reader as it is, and no byte is left to offer. It ends: with
-- each frame the reader holds fewer bytes.
-- Assumes nothing.
use Rattle.vectors.specs.Courses.{all_closed, Comes}
use Rattle.vectors.proofs.panel.print_drained.Given as goal

abbrev pub invariant-loop-r : goal.invariant-loop-r
invariant-loop-r g l = Comes l.fn.reader all_closed l.reader all_closed

abbrev pub decreases-loop-r : goal.decreases-loop-r
decreases-loop-r g l = l.reader.count
