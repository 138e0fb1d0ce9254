-- One number more in its pair of digits: what is laid in front of it, and what is still to be laid from it on.
-- Assumes nothing.
use Prim.Native.Nat.{ℕ, ◌+◌, ◌/◌, ◌%◌, ◌≤◌}
use mathlib.Core.Path.{◌≡◌, ◌∙◌}
use mathlib.Core.List.{List, [], ◌∷◌, ◌++◌, append_assoc}
use native.Mathlib.Nat.{div-one}
use native.Mathlib.Omega.{arith}
use lib.ListN.{length, take, drop, set, length-set}
use lib.Seq.{take-add, drop-drop}
use Rattle.std.proofs.lemmas.List.{take_more_set, drop-set-lt}
use Rattle.rules.specs.Numbers.{with_zeros}
use Rattle.kpa_writer.specs.Pairs.{pairs_over}

two_digits : (n : ℕ) → with_zeros 2 n ≡ (48 + n / 10) ∷ (48 + n % 10) ∷ []
unfolding with_zeros
two_digits n = rw div-one

module _ (t : List ℕ) (i n : ℕ) where
  -- the text with the two digits stored
  abbrev pub both : List ℕ
  both = set (set t i (48 + n / 10)) (i + 1) (48 + n % 10)

  module _ (room : i + 2 ≤ length t) where
    front : take (i + 2) both ≡ take i t ++ with_zeros 2 n
    front =
        let places : i + 2 ≡ i + 1 + 1 = omega arith in
        rw (places, take_more_set (set t i (48 + n / 10)) (i + 1) (48 + n % 10) (rw length-set (omega arith)), take_more_set t i (48 + n / 10) (omega arith), two_digits n, append_assoc)

    behind : (k : ℕ) → i + 2 ≤ k → drop k both ≡ drop k t
    behind k h = drop-set-lt k (set t i (48 + n / 10)) (i + 1) (48 + n % 10) (omega arith) ∙ drop-set-lt k t i (48 + n / 10) (omega arith)

    pub one_laid : (ns : List ℕ) → take (i + 3) both ++ pairs_over ns (drop (i + 3) both) ≡ take i t ++ pairs_over (n ∷ ns) (drop i t)
    unfolding pairs_over
    one_laid ns =
        let places : i + 3 ≡ i + 2 + 1 = omega arith in
        let cut : take (i + 3) both ≡ take (i + 2) both ++ take 1 (drop (i + 2) both) = rw places (take-add (i + 2) 1 both) in
        rw (cut, front, behind (i + 2) (omega arith), behind (i + 3) (omega arith), drop-drop 2 i t, drop-drop 3 i t)
        (simp append_assoc)
