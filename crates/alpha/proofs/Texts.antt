-- What is read of one text is what the rules say of it. Assumes nothing.
use Rattle.std.proofs.Common.{◌≡◌, ℕ, ◌≤◌, ◌<◌, ◌^◌, Bool, true, false, cond, ◌&&◌, List, [], ◌∷◌, Some, None, length, get_or, refl, sym, ap, ◌∙◌, inl, inr, lt_of_lt_of_le, le-leb, lit<, arith}
use mathlib.Core.Bool.{and-true, and-false}
use native.Mathlib.Nat.{pow-le-pow_right}
use Rattle.std.proofs.lemmas.Bool.{cases_lt, lt-leb}
use Rattle.rules.specs.Bytes.{every}
use Rattle.rules.specs.Numbers.{is_digit, decimal, is_hex_digit, hex_number}
use Rattle.rules.specs.Sentences.{is_decimal}
use Rattle.frame_laws.proofs.Numbers.{decimal_below}
use Rattle.texts.specs.Numbers.{digits_in}
use Rattle.checksums.specs.Hex.{pair_in}
use Rattle.alpha.specs.Fields.{Text, decimal_in, hex_in}

-- where a value is given for a test that passes, and none for one that fails
pub taken : {A : Type 0} (test : Bool) (v : A) {u : A} → Some u ≡ cond test (Some v) None → (test ≡ true) × (u ≡ v)
taken true v e = (refl, cc)
taken false v e = cc

pub left_out : {A : Type 0} (test : Bool) (v : A) → None ≡ cond test (Some v) None → test ≡ false
left_out true v e = cc
left_out false v e = refl

-- A text of at most w bytes, w at most 9, is a decimal field of width w where it is a row of digits.
module _ (w : ℕ) (t : List ℕ) (h : length t ≤ w) (k : w ≤ 9) where
  as_wide : digits_in t ≡ cond (is_decimal w t) (Some (decimal t)) None
  unfolding digits_in
  as_wide = rw (le-leb (length t) w h, le-leb (length t) 9 (omega arith))

  pub no_number : None ≡ digits_in t → is_decimal w t ≡ false
  no_number e = left_out (is_decimal w t) (decimal t) (e ∙ as_wide)

  pub a_number : {n : ℕ} → Some n ≡ digits_in t → (is_decimal w t ≡ true) × (n ≡ decimal t)
  a_number e = taken (is_decimal w t) (decimal t) (e ∙ as_wide)

-- the same with the test of the width
pub decimal_test : (w : ℕ) (t : List ℕ) → w ≤ 9 → decimal_in w t ≡ cond (is_decimal w t) (Some (decimal t)) None
decimal_test w t k =
    elim (cases_lt w (length t)) [
      | inl h ↦ simp (lt-leb (length t) w h, and-false)
      | inr h ↦ rw (le-leb (length t) w h) (as_wide w t h k ∙ rw (le-leb (length t) w h))
    ]

pub count_below : (k : ℕ) (t : List ℕ) → length t ≤ k → every is_digit t ≡ true → decimal t < 10 ^ k
count_below k t h e = lt_of_lt_of_le (decimal_below t e) (pow-le-pow_right (lit< tt) h)

-- A text of two bytes is a field of two hexadecimal digits where both are digits.
pub two_bytes : (t : Text) → length t ≡ 2 → pair_in (get_or t 0 0) (get_or t 1 0) ≡ hex_in t
unfolding pair_in every
two_bytes [] h = absurd (omega arith)
two_bytes (u ∷ []) h = absurd (omega arith)
two_bytes (u ∷ l ∷ []) h =
    ap (λ (b : Bool). cond b (Some (hex_number u l)) None) (ap (λ (b : Bool). is_hex_digit u && b) (sym (and-true (is_hex_digit l))))
two_bytes (u ∷ l ∷ b ∷ bs) h = absurd (omega arith)
