-- The loop of `vectors::panel::print_offered`: the run has come to the reader as it is and to the bytes that are left. It ends:
-- with a frame fewer bytes are held and left to offer; without one fewer are left to offer. A reader that hands out a frame
-- holds fewer than 256 bytes.
-- Assumes nothing.
use Rattle.std.proofs.Common.{◌+◌, ◌*◌, min, length}
use Rattle.vectors.specs.Courses.{at_first, Comes}
use Rattle.vectors.proofs.panel.print_offered.Given as goal

abbrev pub invariant-loop-r : goal.invariant-loop-r
invariant-loop-r g l = Comes l.fn.reader (at_first l.fn.stream) l.reader (at_first l.rest)

abbrev pub decreases-loop-r : goal.decreases-loop-r
decreases-loop-r g l = 256 * length l.rest + min l.reader.count 255
