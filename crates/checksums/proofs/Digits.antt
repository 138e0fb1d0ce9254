-- The table has the number of each digit; a hexadecimal digit's number is below 16, so 16 tells that a byte is none; and
-- when two bytes are the digits of a number. Assumes nothing.
use Rattle.std.proofs.Common.{◌≡◌, ℕ, ◌<◌, Bool, true, false, cond, ◌&&◌, eqb, List, [], ◌∷◌, ◌++◌, Some, None, get_or, replicate, refl, sym, ap, ◌∙◌, arith, eqb-true}
use Rattle.std.specs.Option.{option_eq}
use Rattle.rules.specs.Numbers.{is_hex_digit, hex_digit_number, hex_number}
use Rattle.frame_laws.proofs.Numbers.{hex_digit_below}
use Rattle.checksums.specs.Hex.{digit_in, digit_of, OfDigits, pair_in}
use Rattle.frame_laws.proofs.Tables.{at_place}

abbrev pub table : List ℕ
table =
    replicate 48 16
    ++ (0 ∷ 1 ∷ 2 ∷ 3 ∷ 4 ∷ 5 ∷ 6 ∷ 7 ∷ 8 ∷ 9 ∷ [])
    ++ replicate 7 16
    ++ (10 ∷ 11 ∷ 12 ∷ 13 ∷ 14 ∷ 15 ∷ [])
    ++ replicate 185 16

right : ℕ → ℕ → Bool
right b x = eqb x (digit_in b)

-- one test, computed over the whole table, holds each entry to the rule
pub of_digits : OfDigits table
unfolding right digit_in is_hex_digit hex_digit_number
of_digits b h = eqb-true (get_or table b 0) (digit_in b) (at_place right table refl b h)

-- what a digit's number says of the byte
pub record DigitFound (b n : ℕ) : Type 0 where
  pub digit : is_hex_digit b ≡ true
  pub number : n ≡ hex_digit_number b
  pub small : n < 16

none : (b : ℕ) (h : Bool) → is_hex_digit b ≡ h → cond h (hex_digit_number b) 16 ≡ 16 → None ≡ cond h (Some (hex_digit_number b)) None
none b true p e = absurd (omega (arith, hex_digit_below b p))
none b false p e = refl

some : (b : ℕ) (h : Bool) → (cond h (hex_digit_number b) 16 ≡ 16 → ⊥) → Some (cond h (hex_digit_number b) 16) ≡ cond h (Some (hex_digit_number b)) None
some b true e = refl
some b false e = absurd (e refl)

found : (b n : ℕ) (h : Bool) → is_hex_digit b ≡ h → Some n ≡ cond h (Some (hex_digit_number b)) None → DigitFound b n
found b n true p e = let q : n ≡ hex_digit_number b = cc in record { digit = p; number = q; small = omega (arith, hex_digit_below b p) }
found b n false p e = cc

missing : (b : ℕ) (h : Bool) → is_hex_digit b ≡ h → None ≡ cond h (Some (hex_digit_number b)) None → is_hex_digit b ≡ false
missing b true p e = cc
missing b false p e = p

-- what stands in the table at a byte: 16 for none, and else the digit's number
module _ (i b : ℕ) (e : i ≡ b) (h : b < 256) where
  entry : get_or table i 0 ≡ digit_in b
  entry = rw e (of_digits b h)

  pub no_digit : get_or table i 0 ≡ 16 → None ≡ digit_of b
  unfolding digit_in digit_of
  no_digit q = none b (is_hex_digit b) refl (sym entry ∙ q)

  pub a_digit : (get_or table i 0 ≡ 16 → ⊥) → Some (get_or table i 0) ≡ digit_of b
  unfolding digit_in digit_of
  a_digit q = ap Some entry ∙ some b (is_hex_digit b) (λ p. q (entry ∙ p))

pub is_found : (b n : ℕ) → Some n ≡ digit_of b → DigitFound b n
unfolding digit_of
is_found b n e = found b n (is_hex_digit b) refl e

pub is_missing : (b : ℕ) → None ≡ digit_of b → is_hex_digit b ≡ false
unfolding digit_of
is_missing b e = missing b (is_hex_digit b) refl e

-- a pair is the number n exactly when both bytes are digits and give n
gives : (good : Bool) (m n : ℕ) → option_eq eqb (cond good (Some m) None) (Some n) ≡ good && eqb m n
gives true m n = refl
gives false m n = refl

pub pair_gives : (upper lower n : ℕ) → option_eq eqb (pair_in upper lower) (Some n) ≡ is_hex_digit upper && is_hex_digit lower && eqb (hex_number upper lower) n
unfolding pair_in
pair_gives upper lower n = gives (is_hex_digit upper && is_hex_digit lower) (hex_number upper lower) n
