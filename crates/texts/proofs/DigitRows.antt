-- What the reader of a number needs of a row of digits: one digit more, and when the row is a number.
-- Assumes nothing.
use Rattle.std.proofs.Common.{◌≡◌, ℕ, ◌+◌, ◌-◌, ◌*◌, ◌^◌, ◌<◌, ◌≤◌, Bool, true, false, cond, ◌&&◌, leb, List, Some, None, length, get_or, drop, sym, ap, ◌∙◌, lt_of_lt_of_le, pow-suc, add-one, arith, lit<, le-leb}
use mathlib.Core.Path.{subst⁻¹}
use mathlib.Core.Bool.{and-false}
use native.Mathlib.Nat.{pow-le-pow_right}
use lib.Arith.{digits_lt}
use borrow.Author.Tests.{lt-leb}
use Rattle.rules.specs.Bytes.{between, every}
use Rattle.rules.specs.Numbers.{is_digit, decimal, decimal_from}
use Rattle.texts.specs.Numbers.{digits_in}
use Rattle.texts.proofs.Steps.{at, done}

-- a text that fails its test is no number, and one that passes it is one
pub refused : (test : Bool) (n : ℕ) → test ≡ false → None ≡ cond test (Some n) None
refused test n e = ap (λ (b : Bool). cond b (Some n) None) (sym e)

pub accepted : (test : Bool) (n : ℕ) → test ≡ true → Some n ≡ cond test (Some n) None
accepted test n e = ap (λ (b : Bool). cond b (Some n) None) (sym e)

module _ (t : List ℕ) where
  pub too_short : length t ≡ 0 → None ≡ digits_in t
  unfolding digits_in
  too_short h = refused (between 1 9 (length t) && every is_digit t) (decimal t) (rw (lt-leb 1 (length t) (omega arith)))

  pub too_long : 9 < length t → None ≡ digits_in t
  unfolding digits_in
  too_long h =
      refused (between 1 9 (length t) && every is_digit t) (decimal t)
      (rw (lt-leb (length t) 9 h, and-false (leb 1 (length t))))

  pub broken : every is_digit t ≡ false → None ≡ digits_in t
  unfolding digits_in
  broken e = refused (between 1 9 (length t) && every is_digit t) (decimal t) (rw e (and-false (between 1 9 (length t))))

  pub a_row : 1 ≤ length t → length t ≤ 9 → every is_digit t ≡ true → Some (decimal t) ≡ digits_in t
  unfolding digits_in
  a_row h k e =
      accepted (between 1 9 (length t) && every is_digit t) (decimal t)
      (rw (le-leb 1 (length t) h, le-leb (length t) 9 k, e))

module _ (t : List ℕ) (i : ℕ) (h : i < length t) where
  pub one_more : is_digit (get_or t i 0) ≡ true → every is_digit (drop i t) ≡ every is_digit (drop (i + 1) t)
  unfolding every
  one_more e = ap (every is_digit) (at t i h) ∙ ap (λ (b : Bool). b && every is_digit (drop (i + 1) t)) e

  pub not_all : is_digit (get_or t i 0) ≡ false → every is_digit (drop i t) ≡ false
  unfolding every
  not_all e = ap (every is_digit) (at t i h) ∙ ap (λ (b : Bool). b && every is_digit (drop (i + 1) t)) e

  pub read_on : (n : ℕ) → decimal_from n (drop i t) ≡ decimal_from (n * 10 + (get_or t i 0 - 48)) (drop (i + 1) t)
  unfolding decimal_from
  read_on n = ap (decimal_from n) (at t i h)

module _ (t : List ℕ) (i : ℕ) (h : length t ≤ i) where
  pub all_read : every is_digit (drop i t) ≡ true
  unfolding every
  all_read = ap (every is_digit) (done t i h)

  pub end_read : (n : ℕ) → decimal_from n (drop i t) ≡ n
  unfolding decimal_from
  end_read n = ap (decimal_from n) (done t i h)

-- i digits make a number below 10 ^ i, and with i at most 8 one that can grow by a digit
pub small : {n i : ℕ} → n < 10 ^ i → i ≤ 8 → n < 100000000
small h k = lt_of_lt_of_le h (pow-le-pow_right (lit< tt) k)

pub grown : {n d : ℕ} (i : ℕ) → n < 10 ^ i → d < 10 → n * 10 + d < 10 ^ (i + 1)
grown {n} {d} i h k = subst⁻¹ (λ (m : ℕ). n * 10 + d < m) (ap (λ (j : ℕ). 10 ^ j) (add-one i) ∙ pow-suc 10 i) (digits_lt h k)
