-- `spe_writer::packets::write_packet` meets its contract: its six bytes are laid at the front where there is room for them.
-- Assumes nothing.
use mathlib.Core.Path.{refl}
use native.Mathlib.Omega.{arith}
use Rattle.pens.proofs.Writing.{writes}
use Rattle.spe_writer.proofs.packets.write_packet.Goals as goal

pub returns : goal.returns
returns c = writes c.if-not-allowed.false refl (omega arith) c.put_bytes.ensures
