-- `amp::amp_read` meets its contract: the frame that is read is that of the family, and its row is laid.
-- Assumes nothing.
use Rattle.amp.proofs.Families.{read_byte}
use Rattle.amp.proofs.amp_read.Goals as goal

pub returns : goal.returns
returns c = rw (c.number_of.ensures, ← read_byte c.args.family c.family_byte.result c.family_byte.ensures c.args.bytes.now) c.read_row.ensures
