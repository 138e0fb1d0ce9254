-- Rows of bytes laid one behind the other: each starts where the one before it ends, so that together they are one row.
-- Assumes nothing.
use Prim.Native.Nat.{ℕ, suc, ◌+◌, ◌^◌, ◌≤◌, ◌<◌}
use Prim.Native.Char.{code}
use mathlib.Core.Path.{◌≡◌, ap, ◌∙◌}
use mathlib.Core.List.{List, ◌∷◌, ◌++◌}
use native.Mathlib.Nat.{zero-add}
use native.Mathlib.Omega.{arith}
use lib.ListN.{length, length-append}
use Rattle.rules.specs.Bytes.{part}
use Rattle.rules.specs.Numbers.{with_zeros, with_spaces}
use Rattle.frame_laws.proofs.Numbers.{zeros_length, spaces_length}
use Rattle.pens.specs.Pens.{laid, field_in}
use Rattle.pens.proofs.Laid.{length_laid, laid_behind, part_laid}
use Rattle.pens.proofs.Digits.{number_zeros, number_spaces}

-- `after` is the output with the n bytes of the row laid at place a, if they fit
pub record Row (a n : ℕ) (row out after : List ℕ) : Type 0 where
  pub size : length row ≡ n
  pub laying : a + n ≤ length out → after ≡ laid a row out

pub row : {a n : ℕ} {p out after : List ℕ} → length p ≡ n → after ≡ laid a p out → Row a n p out after
row e f = record { size = e; laying = λ _. f }

-- a row, and one more behind it
infixl 20 ◌then◌
pub ◌then◌ : {a n m : ℕ} {p q out mid after : List ℕ} → Row a n p out mid → Row (a + n) m q mid after → Row a (n + m) (p ++ q) out after
◌then◌ {a} {n} {m} {p} {q} {out} {mid} {after} f g = record {
  size = length-append p q ∙ rw (f.size, g.size);
  laying = λ room.
      let first : mid ≡ laid a p out = f.laying (omega arith) in
      let kept : length mid ≡ length out = ap length first ∙ length_laid a p out in
      let second : after ≡ laid (a + n) q mid = g.laying (omega arith) in
      second ∙ rw (first, ← f.size) (laid_behind a p q out (rw (f.size, g.size) (omega arith)));
}

-- a head and data, and behind them what is computed of the data where it was laid
pub sealed : (m n k : ℕ) (head data₁ : List ℕ) (seal : List ℕ → List ℕ) {out mid after : List ℕ} → length head ≡ m → length data₁ ≡ n → length (seal data₁) ≡ k
    → Row 0 (m + n) (head ++ data₁) out mid → after ≡ laid (m + n) (seal (part m n mid)) mid → Row 0 (m + n + k) (head ++ data₁ ++ seal data₁) out after
sealed m n k head data₁ seal {out} {mid} {after} eh ed es first second = record {
  size = length-append (head ++ data₁) (seal data₁) ∙ rw (first.size, es);
  laying = λ room.
      let found : part m n mid ≡ data₁ = rw (first.laying (omega arith)) (part_laid m n head data₁ out eh ed (omega arith)) in
      let behind : after ≡ laid (0 + (m + n)) (seal data₁) mid = rw (zero-add, ← found) second in
      (first then row es behind).laying (omega arith);
}

-- a field: its comma, and its number padded as the rules have it
pub zeros_row : {a : ℕ} {out after : List ℕ} (w n : ℕ) → n < 10 ^ w → after ≡ laid a (field_in (code "0") w n) out → Row a (suc w) (code "," ∷ with_zeros w n) out after
zeros_row w n h e = row (ap suc (zeros_length w n)) (rw (number_zeros w n h) at e)

pub spaces_row : {a : ℕ} {out after : List ℕ} (w n : ℕ) → n < 10 ^ suc w → after ≡ laid a (field_in (code " ") (suc w) n) out → Row a (suc (suc w)) (code "," ∷ with_spaces (suc w) n) out after
spaces_row w n h e = row (ap suc (spaces_length (suc w) n)) (rw (number_spaces w n h) at e)
