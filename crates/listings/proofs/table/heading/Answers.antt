-- `listings::table::heading` meets its contract: the names of the columns, from the line's front.
-- Assumes nothing.
use Rattle.listings.proofs.Fronts.{from_front}
use Rattle.listings.proofs.table.heading.Goals as goal

pub returns : goal.returns
returns c = from_front c.requires c.text.ensures
