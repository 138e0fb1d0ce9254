-- `spe::packets::is_packet` meets its contract: six bytes are compared with the packet one by one, and the code with itself.
-- Assumes nothing.
use Prim.Native.Nat.{ℕ}
use mathlib.Core.Path.{◌≡◌, refl, sym, ap, ◌∙◌}
use mathlib.Core.Bool.{◌&&◌, and_assoc, and-true}
use mathlib.Core.List.{List}
use borrow.Author.Tests.{eq-eqb}
use lib.Dec.{eqb}
use lib.ListN.{length, get_or}
use Rattle.rules.specs.Bytes.{same}
use Rattle.rules.specs.Codes.{is_packet, packet}
use Rattle.frame_laws.proofs.Lists.{last}
use Rattle.spe.proofs.PacketFrames.{not_packet}
use Rattle.spe.proofs.packets.is_packet.Goals as goal

six : (mark : ℕ) (s : List ℕ) → length s ≡ 6
    → (eqb (get_or s 0 0) mark && eqb (get_or s 1 0) mark && eqb (get_or s 2 0) mark && eqb (get_or s 3 0) 1 && eqb (get_or s 5 0) (get_or s 4 0))
    ≡ is_packet mark s
unfolding same
six mark s h =
    sym (ap (λ (l : List ℕ). same l (packet mark (get_or s 4 0))) (last 6 0 s h)
    ∙ rw (eq-eqb (get_or s 4 0) (get_or s 4 0) refl) (simp (and_assoc, and-true)))

pub returns-then-s-ne-PACKET_LENGTH : goal.returns-then-s-ne-PACKET_LENGTH
returns-then-s-ne-PACKET_LENGTH c =
    let a = c.args in
    sym (not_packet a.mark a.s.now c.if-s-ne-PACKET_LENGTH.true)

pub returns : goal.returns
returns c =
    six _ _ c.if-s-ne-PACKET_LENGTH.false
