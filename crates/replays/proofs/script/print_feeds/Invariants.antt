-- The loop of `replays::script::print_feeds`: with each frame that is handed out, fewer bytes are held and left to offer.
-- Assumes nothing.
use Rattle.std.proofs.Common.{◌+◌, length}
use Rattle.replays.proofs.script.print_feeds.Given as goal

abbrev pub decreases-loop-r : goal.decreases-loop-r
decreases-loop-r g l = l.reader.count + length l.rest
