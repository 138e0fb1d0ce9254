-- The digits that `put_number` lays: how many they are, the last of them taken off, and that they are the rules'
-- `with_zeros` and `with_spaces` where the number has no more digits than its width. The rules go by the first digit and
-- the pen by the last, so both are brought to the last one.
-- Assumes nothing.
use Prim.Native.Nat.{ℕ, zero, suc, ◌+◌, ◌-◌, ◌*◌, ◌/◌, ◌%◌, ◌^◌, ◌≤◌, ◌<◌}
use Prim.Native.Char.{code}
use mathlib.Core.Path.{◌≡◌, refl, sym, ap, ap₂, ◌∙◌}
use mathlib.Core.Bool.{Bool, true, false, cond}
use mathlib.Core.List.{List, [], ◌∷◌, ◌++◌}
use native.Mathlib.Nat.{div-one, div-div-eq-div-mul, div-lt_iff_lt-mul, le-div_iff_mul-le, pow-suc, pow-succ', mod-lt, mod-eq_of_lt, le_trans}
use native.Mathlib.Numerals.{sub-one, add-one}
use native.Mathlib.Omega.{arith}
use borrow.Author.Tests.{eqb-true, ltb-true, ltb-false, ne_eqb}
use lib.Arith.{mod-mul, digits_div, digits_mod}
use lib.Dec.{eqb, ltb}
use lib.ListN.{length, set, length-append}
use Rattle.rules.specs.Numbers.{with_zeros, with_spaces}
use Rattle.frame_laws.proofs.Numbers.{ten_pos}
use Rattle.pens.specs.Pens.{laid, digit_or, digits_or, number_in}
use Rattle.pens.proofs.Laid.{laid_last}

pub length_digits : (pad w n : ℕ) → length (digits_or pad w n) ≡ w
unfolding digits_or
length_digits pad zero n = refl
length_digits pad (suc w) n = length-append (digits_or pad w (n / 10)) (digit_or pad n ∷ []) ∙ rw (length_digits pad w (n / 10), add-one)

pub length_number : (pad w n : ℕ) → length (number_in pad w n) ≡ w
unfolding number_in
length_number pad zero n = refl
length_number pad (suc w) n = length-append (digits_or pad w (n / 10)) ((code "0" + n % 10) ∷ []) ∙ rw (length_digits pad w (n / 10), add-one)

pub last_digit : (pad w n : ℕ) → 0 < w → digits_or pad w n ≡ digits_or pad (w - 1) (n / 10) ++ digit_or pad n ∷ []
unfolding digits_or
last_digit pad zero n h = absurd (omega arith)
last_digit pad (suc w) n h = rw sub-one

pub last_of_number : (pad w n : ℕ) → 0 < w → number_in pad w n ≡ digits_or pad (w - 1) (n / 10) ++ (code "0" + n % 10) ∷ []
unfolding number_in
last_of_number pad zero n h = absurd (omega arith)
last_of_number pad (suc w) n h = rw sub-one

-- the last digit of a number, stored where it belongs, and what is left laid before it
pub ones_laid : (a pad w n : ℕ) (out : List ℕ) → 0 < w → a + (w - 1) < length out
    → laid a (digits_or pad (w - 1) (n / 10)) (set out (a + (w - 1)) (code "0" + n % 10)) ≡ laid a (number_in pad w n) out
ones_laid a pad w n out some room = rw (last_of_number pad w n some) (laid_last a (w - 1) _ _ out (length_digits pad (w - 1) (n / 10)) room)

pub digit_laid : (a pad w n : ℕ) (out : List ℕ) {d : ℕ} → d ≡ digit_or pad n → 0 < w → a + (w - 1) < length out
    → laid a (digits_or pad (w - 1) (n / 10)) (set out (a + (w - 1)) d) ≡ laid a (digits_or pad w n) out
digit_laid a pad w n out e some room = rw (e, last_digit pad w n some) (laid_last a (w - 1) _ _ out (length_digits pad (w - 1) (n / 10)) room)

-- one digit less is one power of ten less
pub tenfold : (w n : ℕ) → n < 10 ^ suc w → n / 10 < 10 ^ w
tenfold w n h = (div-lt_iff_lt-mul {k = 10} {x = n} {y = 10 ^ w} (omega arith)).1 (rw pow-suc at h)

tenfold_least : (w n : ℕ) → 10 ^ suc w ≤ n → 10 ^ w ≤ n / 10
tenfold_least w n h = (le-div_iff_mul-le {k = 10} {x = 10 ^ w} {y = n} (omega arith)).1 (rw pow-suc at h)

module _ (w n : ℕ) where
  cut : n % 10 ^ suc w ≡ n / 10 % 10 ^ w * 10 + n % 10
  cut = rw pow-suc (mod-mul n (ten_pos w) (omega arith))

  first_of : n / 10 ^ suc w ≡ n / 10 / 10 ^ w
  first_of = rw pow-succ' (sym (div-div-eq-div-mul n 10 (10 ^ w)))

  rest_of : n % 10 ^ suc w / 10 ≡ n / 10 % 10 ^ w
  rest_of = rw cut (digits_div (n / 10 % 10 ^ w) (mod-lt n (omega arith)))

  last_of : n % 10 ^ suc w % 10 ≡ n % 10
  last_of = rw cut (digits_mod (n / 10 % 10 ^ w) (mod-lt n (omega arith)))

-- the rules' row of digits, by its last
pub zeros_last : (w n : ℕ) → n < 10 ^ suc w → with_zeros (suc w) n ≡ with_zeros w (n / 10) ++ (code "0" + n % 10) ∷ []
unfolding with_zeros
zeros_last zero n h = rw (div-one, mod-eq_of_lt h)
zeros_last (suc w) n h =
    ap₂ (λ (d : ℕ) (ds : List ℕ). (code "0" + d) ∷ ds) (first_of w n)
    (zeros_last w (n % 10 ^ suc w) (mod-lt n (ten_pos (suc w))) ∙ rw (rest_of, last_of))

-- a zero is its own padding
zero_or : (n : ℕ) → digit_or (code "0") n ≡ code "0" + n % 10
unfolding digit_or
zero_or n = go (eqb n 0) refl
  where
    go : (b : Bool) → eqb n 0 ≡ b → cond b (code "0") (code "0" + n % 10) ≡ code "0" + n % 10
    go true e = rw (eqb-true n 0 e)
    go false e = refl

-- and a digit stands where something is left
digit_of : (n : ℕ) → 0 < n → digit_or (code " ") n ≡ code "0" + n % 10
unfolding digit_or
digit_of n h = rw (ne_eqb n 0 (omega arith))

digits_zeros : (w n : ℕ) → n < 10 ^ w → digits_or (code "0") w n ≡ with_zeros w n
unfolding digits_or with_zeros
digits_zeros zero n h = refl
digits_zeros (suc w) n h = ap₂ (λ (ds : List ℕ) (d : ℕ). ds ++ d ∷ []) (digits_zeros w (n / 10) (tenfold w n h)) (zero_or n) ∙ sym (zeros_last w n h)

pub number_zeros : (w n : ℕ) → n < 10 ^ w → number_in (code "0") w n ≡ with_zeros w n
unfolding number_in with_zeros
number_zeros zero n h = refl
number_zeros (suc w) n h = rw (digits_zeros w (n / 10) (tenfold w n h)) (sym (zeros_last w n h))

-- a number that leaves a byte free has a space there
digits_space : (w n : ℕ) → n < 10 ^ w → digits_or (code " ") (suc w) n ≡ code " " ∷ digits_or (code " ") w n
unfolding digits_or digit_or
digits_space zero n h =
    let none : n ≡ 0 = omega arith in
    rw none
digits_space (suc w) n h = rw (digits_space w (n / 10) (tenfold w n h))

-- a number that fills its width has no space
digits_full : (w n : ℕ) → 10 ^ w ≤ n → n < 10 ^ suc w → digits_or (code " ") (suc w) n ≡ with_zeros (suc w) n
unfolding digits_or with_zeros
digits_full zero n l h = rw (digit_of n (omega arith)) (sym (zeros_last 0 n h))
digits_full (suc w) n l h =
    ap₂ (λ (ds : List ℕ) (d : ℕ). ds ++ d ∷ []) (digits_full w (n / 10) (tenfold_least w n l) (tenfold (suc w) n h)) (digit_of n (le_trans (ten_pos (suc w)) l))
    ∙ sym (zeros_last (suc w) n h)

pub number_spaces : (w n : ℕ) → n < 10 ^ suc w → number_in (code " ") (suc w) n ≡ with_spaces (suc w) n
unfolding number_in with_spaces with_zeros digits_or
number_spaces zero n h = sym (zeros_last 0 n h)
number_spaces (suc w) n h = go (number_spaces w n) (ltb n (10 ^ suc w)) refl
  where
    go : (n < 10 ^ suc w → number_in (code " ") (suc w) n ≡ with_spaces (suc w) n) → (b : Bool) → ltb n (10 ^ suc w) ≡ b
        → number_in (code " ") (suc (suc w)) n ≡ cond b (code " " ∷ with_spaces (suc w) n) (with_zeros (suc (suc w)) n)
    go less true e =
        ap (λ (ds : List ℕ). ds ++ (code "0" + n % 10) ∷ []) (digits_space w (n / 10) (tenfold w n (ltb-true _ _ e)))
        ∙ ap (λ (ds : List ℕ). code " " ∷ ds) (less (ltb-true _ _ e))
    go less false e =
        ap (λ (ds : List ℕ). ds ++ (code "0" + n % 10) ∷ []) (digits_full w (n / 10) (tenfold_least w n (ltb-false _ _ e)) (tenfold (suc w) n h))
        ∙ sym (zeros_last (suc w) n h)
