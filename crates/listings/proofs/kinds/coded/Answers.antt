-- `listings::kinds::coded` meets its contract: the word, and the two digits behind it.
-- Assumes nothing.
use Rattle.lines.proofs.Typed.{◌next◌}
use Rattle.listings.proofs.kinds.coded.Goals as goal

pub returns : goal.returns
returns c = c.text.ensures next c.hex_byte.ensures
