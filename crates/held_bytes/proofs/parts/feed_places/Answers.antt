-- `held_bytes::parts::feed_places` meets its contract: what the call leaves of the reader that the parts make is all in the
-- places, the counts and the answer.
-- Assumes nothing.
use Rattle.held_bytes.proofs.Stays.{fed_in_parts}
use Rattle.held_bytes.proofs.parts.feed_places.Goals as goal

pub returns : goal.returns
returns c = fed_in_parts _ c.args.offered.now _ _ c.feed-answer.ensures
