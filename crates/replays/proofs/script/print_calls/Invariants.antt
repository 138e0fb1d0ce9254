-- The loop of `replays::script::print_calls`: each call takes at least one byte of the script.
-- Assumes nothing.
use Rattle.std.proofs.Common.{length}
use Rattle.replays.proofs.script.print_calls.Given as goal

abbrev pub decreases-loop-rest : goal.decreases-loop-rest
decreases-loop-rest g l = length l.rest
