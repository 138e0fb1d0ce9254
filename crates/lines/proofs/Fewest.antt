-- The digits that `io::decimal` gives are the number in its fewest digits: its digits are those of the rules'
-- `with_zeros`, and it takes no more of them than the number has.
-- Assumes nothing.
use Prim.Native.Nat.{ℕ, zero, suc, ◌+◌, ◌-◌, ◌/◌, ◌%◌, ◌^◌, ◌≤◌, ◌<◌}
use Prim.Native.Char.{code}
use mathlib.Core.Path.{◌≡◌, refl, sym, ap₂, ◌∙◌}
use mathlib.Core.List.{List, [], ◌∷◌, ◌++◌}
use mathlib.Core.Logic.{⊎_elim}
use native.Mathlib.Nat.{mod-lt, pow-le-pow_right, lt_of_lt_of_le, eq-or-lt_of_le}
use native.Mathlib.Numerals.{sub-one}
use native.Mathlib.Omega.{arith, by_contra}
use borrow.Author.Tests.{lt-ltb, le-ltb}
use Rattle.io.specs.Digits.{hex_digit_ascii, last_digits, IsDigitCount}
use Rattle.rules.specs.Numbers.{with_zeros}
use Rattle.pens.proofs.Digits.{tenfold, zeros_last}
use Rattle.lines.specs.Lines.{fewest_digits}

last : (n : ℕ) → hex_digit_ascii (n % 10) ≡ code "0" + n % 10
last n = rw (lt-ltb (n % 10) 10 (mod-lt n (omega arith)))

-- the digits of a number that has no more than k of them
digits_zeros : (k n : ℕ) → n < 10 ^ k → last_digits 10 k n ≡ with_zeros k n
unfolding with_zeros
digits_zeros zero n h = refl
digits_zeros (suc k) n h = ap₂ (λ (ds : List ℕ) (d : ℕ). ds ++ d ∷ []) (digits_zeros k (n / 10) (tenfold k n h)) (last n) ∙ sym (zeros_last k n h)

-- where it has no fewer, they are the fewest of up to w
fewest_zeros : (w k n : ℕ) → 1 ≤ k → k ≤ w → n < 10 ^ k → (1 < k → 10 ^ (k - 1) ≤ n) → fewest_digits w n ≡ with_zeros k n
unfolding fewest_digits
fewest_zeros zero k n l h below least = absurd (omega arith)
fewest_zeros (suc zero) k n l h below least =
    let one : k ≡ 1 = omega arith in
    rw one
fewest_zeros (suc (suc w)) k n l h below least = ⊎_elim all (λ s. less s (fewest_zeros (suc w) k n l (omega arith) below least)) (eq-or-lt_of_le h)
  where
    all : k ≡ suc (suc w) → fewest_digits (suc (suc w)) n ≡ with_zeros k n
    all full = rw (le-ltb n (10 ^ suc w) (rw (full, sub-one) at (least (omega arith))), full)

    less : k < suc (suc w) → fewest_digits (suc w) n ≡ with_zeros k n → fewest_digits (suc (suc w)) n ≡ with_zeros k n
    less s e = rw (lt-ltb n (10 ^ suc w) (lt_of_lt_of_le below (pow-le-pow_right (omega arith) (omega arith)))) e

-- a number of 64 bits has no more than 20 digits
few : (k n : ℕ) → n < 2 ^ 64 → IsDigitCount 10 1 n k → k ≤ 20
few k n h f = by_contra k 20 (λ more. omega (arith, f.2 (omega arith), pow-le-pow_right {n = 10} (omega arith) {i = 20} {j = k - 1} (omega arith)))

pub fewest : (k n : ℕ) → n < 2 ^ 64 → IsDigitCount 10 1 n k → last_digits 10 k n ≡ fewest_digits 20 n
fewest k n h f = digits_zeros k n f.1 ∙ sym (fewest_zeros 20 k n f.0 (few k n h f) f.1 f.2)
