-- `spe::packets::is_command` meets its contract: it is six bytes, and the two tests are those of the definition.
-- Assumes nothing.
use mathlib.Core.Path.{sym}
use mathlib.Core.Bool.{◌&&◌}
use Rattle.rules.specs.Codes.{is_command}
use Rattle.spe.proofs.PacketFrames.{not_command}
use Rattle.spe.proofs.packets.is_command.Goals as goal

pub returns-then-s-ne-PACKET_LENGTH : goal.returns-then-s-ne-PACKET_LENGTH
returns-then-s-ne-PACKET_LENGTH c = sym (not_command _ c.if-s-ne-PACKET_LENGTH.true)

pub returns : goal.returns
unfolding is_command
returns c = λ i. c.is_packet.ensures i && c.is_code.ensures i
