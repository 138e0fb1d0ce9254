-- The loop of `listings::prints::print_frames`: the listing has come as far as the frames that are listed.
use Rattle.std.proofs.Common.{◌≡◌}
use Rattle.listings.specs.Tallies.{tallied}
use Rattle.listings.proofs.prints.print_frames.Given as goal

abbrev pub invariant-loop-start : goal.invariant-loop-start
invariant-loop-start g l = l.tally ≡ tallied l.family l.capture l.start-index
