-- `alpha_writer::write_enable` meets its contract: its three bytes are laid at the front where there is room for them.
-- Assumes nothing.
use mathlib.Core.Path.{refl}
use native.Mathlib.Omega.{arith}
use Rattle.pens.proofs.Writing.{writes}
use Rattle.alpha_writer.proofs.write_enable.Goals as goal

pub returns : goal.returns
returns c = writes refl refl (omega arith) c.put_bytes.ensures
