-- Bytes that are zero: two of them are, where what is seen of both by `|` of numbers is; and where all 133 places are, nothing
-- stands in them.
-- Assumes nothing.
use Prim.Native.Nat.{ℕ, ◌<◌}
use mathlib.Core.Path.{◌≡◌, sym, ◌∙◌}
use mathlib.Core.List.{List, []}
use native.Mathlib.Omega.{arith}
use lib.Bits.{bit_or, or_add_and, and_le_l, and_le_r}
use lib.ListN.{length, get_or, get_or-replicate}
use lib.Seq.{ext_get_or}
use Rattle.stream_rules.specs.Streams.{filled}
use Rattle.held_bytes.proofs.Buffers.{zeros, length_zeros}

pub both_zero : (a b : ℕ) → bit_or a b ≡ 0 → (a ≡ 0) × (b ≡ 0)
both_zero a b e = (omega (arith, or_add_and a b, and_le_r a b), omega (arith, or_add_and a b, and_le_l a b))

pub all_zeros : (places : List ℕ) → length places ≡ 133 → ((k : ℕ) → k < 133 → get_or places k 0 ≡ 0) → places ≡ filled []
all_zeros places long none =
    ext_get_or 0 places (zeros 133) (long ∙ sym (length_zeros 133))
    (λ k low. none k (omega arith) ∙ sym (get_or-replicate 133 k 0 0 (omega arith)))
