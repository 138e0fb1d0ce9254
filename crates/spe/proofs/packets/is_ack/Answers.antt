-- `spe::packets::is_ack` meets its contract: it is six bytes, and the two tests are those of the definition.
-- Assumes nothing.
use mathlib.Core.Path.{sym}
use mathlib.Core.Bool.{◌&&◌}
use Rattle.rules.specs.Codes.{is_ack}
use Rattle.spe.proofs.PacketFrames.{not_ack}
use Rattle.spe.proofs.packets.is_ack.Goals as goal

pub returns-then-s-ne-PACKET_LENGTH : goal.returns-then-s-ne-PACKET_LENGTH
returns-then-s-ne-PACKET_LENGTH c = sym (not_ack _ c.if-s-ne-PACKET_LENGTH.true)

pub returns : goal.returns
unfolding is_ack
returns c = λ i. c.is_packet.ensures i && c.is_ack_code.ensures i
