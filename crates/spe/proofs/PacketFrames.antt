-- When bytes are a packet, an acknowledgement or a command: by their length.
-- Assumes nothing.
use Prim.Native.Nat.{ℕ}
use mathlib.Core.Path.{◌≡◌, ap}
use mathlib.Core.Bool.{Bool, true, false, ◌&&◌}
use mathlib.Core.List.{List}
use native.Mathlib.Decide.{ℕ_discrete}
use native.Mathlib.Omega.{arith}
use lib.ListN.{length, get_or}
use Rattle.rules.specs.Codes.{is_packet, packet, is_code, is_ack_code, is_ack, is_command}
use Rattle.frame_laws.proofs.Lists.{lengths_differ}

-- a packet is six bytes
pub not_packet : (mark : ℕ) (s : List ℕ) → (length s ≡ 6 → ⊥) → is_packet mark s ≡ false
not_packet mark s h = lengths_differ s (packet mark (get_or s 4 0)) h

pub not_ack : (s : List ℕ) → (length s ≡ 6 → ⊥) → is_ack s ≡ false
unfolding is_ack
not_ack s h = ap (λ (b : Bool). b && is_ack_code (get_or s 4 0)) (not_packet 0xAA s h)

pub not_command : (s : List ℕ) → (length s ≡ 6 → ⊥) → is_command s ≡ false
unfolding is_command
not_command s h = ap (λ (b : Bool). b && is_code (get_or s 4 0)) (not_packet 0x55 s h)

-- so a test that only six bytes pass has found six
pub six_bytes : (test : Bool) (s : List ℕ) → ((length s ≡ 6 → ⊥) → test ≡ false) → test ≡ true → length s ≡ 6
six_bytes test s never e =
    elim (ℕ_discrete (length s) 6) [
      | yes six ↦ six
      | no other ↦ let z : ◌≡◌ {A = ℕ} 0 1 = cc (never other) in absurd (omega arith)
    ]
