-- `listings::table::numbers` meets its contract: three numbers, with a space behind each.
-- Assumes nothing.
use Rattle.lines.proofs.Typed.{◌next◌}
use Rattle.listings.proofs.Fronts.{from_front}
use Rattle.listings.proofs.table.numbers.Goals as goal

pub returns : goal.returns
returns c = from_front c.requires (c.number.ensures next c.spaced.ensures next c.spaced-2.ensures next c.text.ensures)
