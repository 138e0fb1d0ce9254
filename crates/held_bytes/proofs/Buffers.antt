-- What stands in the held places: bytes at the front of zeros, and two rows of bytes one behind the other.
-- Assumes nothing.
use Prim.Native.Nat.{ℕ, zero, suc, ◌+◌, ◌-◌, ◌≤◌}
use mathlib.Core.Path.{◌≡◌, sym, ap, ◌∙◌}
use mathlib.Core.List.{List, ◌++◌}
use native.Mathlib.Nat.{zero-add, suc-sub-suc, sub-zero}
use native.Mathlib.Omega.{arith}
use lib.ListN.{length, take, drop, replicate, length-append, length-replicate}
use lib.Seq.{take_at}
use Rattle.stream_rules.specs.Streams.{filled}
use Rattle.pens.specs.Pens.{laid}
use Rattle.pens.proofs.Laid.{laid_front, laid_behind}

abbrev pub zeros : ℕ → List ℕ
zeros n = replicate n 0

pub length_zeros : (n : ℕ) → length (zeros n) ≡ n
length_zeros n = length-replicate n 0

drop_zeros : (k n : ℕ) → drop k (zeros n) ≡ zeros (n - k)
drop_zeros zero n = ap zeros (sym (sub-zero n))
drop_zeros (suc k) zero = let none : 0 ≡ 0 - suc k = omega arith in ap zeros none
drop_zeros (suc k) (suc n) = drop_zeros k n ∙ ap zeros (sym (suc-sub-suc n k))

-- bytes laid at the front of the held places
pub fills : (bs : List ℕ) → length bs ≤ 133 → laid 0 bs (zeros 133) ≡ filled bs
fills bs h = laid_front bs (zeros 133) (omega (arith, length_zeros 133)) ∙ ap (λ (l : List ℕ). bs ++ l) (drop_zeros (length bs) 133)

-- bytes laid behind others are laid with them
laid_both : (held piece l : List ℕ) → length held + length piece ≤ length l → laid (length held) piece (laid 0 held l) ≡ laid 0 (held ++ piece) l
laid_both held piece l room =
    ap (λ (a : ℕ). laid a piece (laid 0 held l)) (sym (zero-add (length held))) ∙ laid_behind 0 held piece l (omega (arith, room))

-- held bytes and a piece at the front of a buffer
pub joins : (held piece work : List ℕ) → length held + length piece ≤ length work
    → take (length held + length piece) (laid (length held) piece (laid 0 held work)) ≡ held ++ piece
joins held piece work room =
    ap (take (length held + length piece)) (laid_both held piece work room ∙ laid_front (held ++ piece) work (omega (arith, room, length-append held piece)))
    ∙ take_at (held ++ piece) (drop (length (held ++ piece)) work) (length held + length piece) (length-append held piece)

pub all_places : (bs : List ℕ) → length bs ≤ 133 → length (filled bs) ≡ 133
all_places bs few = omega (arith, length-append bs (zeros (133 - length bs)), length_zeros (133 - length bs))
