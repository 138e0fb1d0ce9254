-- Laws of numbers in fields, each over the width: a number that fits, written out, is read back; and a text that stands
-- in the writer's form is what its number is written as.
-- Digits go by induction on the row, with quotient and remainder by the power of ten; padding goes by the clauses of its
-- definition. Assumes nothing.
use Prim.Native.Nat.{ℕ, zero, suc, ◌+◌, ◌-◌, ◌*◌, ◌/◌, ◌%◌, ◌^◌, ◌≤◌, ◌<◌}
use Prim.Native.Char.{code}
use mathlib.Core.Path.{◌≡◌, refl, sym, ap, ap₂, ◌∙◌}
use mathlib.Core.Bool.{true, false, ◌&&◌, not, false≢true, and-false, or-true}
use mathlib.Core.List.{List, [], ◌∷◌}
use mathlib.Core.Logic.{⊎_elim}
use native.Mathlib.Omega.{arith}
use native.Mathlib.Nat.{div-one, add-suc, le-div_iff_mul-le, mul-le-mul_right, lt_of_lt_of_le, le-suc, one-le-pow, zero-add, add-sub_cancel_left, pow-suc, pow-le-pow_right, div-add-mod', mod-lt, div-lt_iff_lt-mul}
use lib.Arith.{digits_lt, digits_div, digits_mod}
use lib.Dec.{eqb, ltb, lit<}
use lib.ListN.{length, take, drop, get_or, length-append, length-drop}
use lib.Pow.{pow-add}
use lib.Seq.{length-take-le, split_at, take_at, get_or_at}
use borrow.Author.Tests.{lt-leb, not-true, ne_eqb, lt-ltb, le-ltb, ltb-true, ltb-false, eqb-true, eqb-false}
use Rattle.rules.specs.Bytes.{between, every}
use Rattle.rules.specs.Numbers.{is_digit, decimal_from, decimal, padded, padded_number, pointed, pointed_number, with_zeros, with_spaces, with_point, is_hex_digit, hex_digit_number, hex_number, hex_digit, hex_digits}
use Rattle.rules.specs.Form.{no_leading_zero, spaces_in_front}
use Rattle.frame_laws.proofs.Bytes.{either, drop_behind, both, both_pass, answer, between_bounds, bounds_between, every_cons, every_split}

pub ten_pos : (w : ℕ) → 0 < 10 ^ w
ten_pos w = one-le-pow w 10 (lit< tt)

-- the digit of a number below ten; a digit is no space, and what is above 9 no digit
pub digit_of : (n : ℕ) → n < 10 → is_digit (code "0" + n) ≡ true
digit_of n h = bounds_between 48 57 (48 + n) (omega arith) (omega arith)

digit_no_space : (b : ℕ) → is_digit b ≡ true → eqb b (code " ") ≡ false
digit_no_space b e = let h = between_bounds 48 57 b e in ne_eqb b 32 (omega arith)

letter_no_digit : (b : ℕ) → 57 < b → is_digit b ≡ false
letter_no_digit b l = simp (lt-leb b 57 l, and-false)

carry : (n x p e : ℕ) → (n * 10 + x) * p + e ≡ n * (p * 10) + ((0 + x) * p + e)
carry n x p e = omega arith

-- Read on from n, a row of digits counts n as many tens as it is long.
pub decimal-from : (n : ℕ) (ds : List ℕ) → decimal_from n ds ≡ n * 10 ^ length ds + decimal ds
unfolding decimal_from
decimal-from n [] = omega arith
decimal-from n (d ∷ ds) =
    decimal-from (n * 10 + (d - 48)) ds
    ∙ carry n (d - 48) (10 ^ length ds) (decimal ds)
    ∙ ap₂ (λ (p e : ℕ). n * p + e) (sym (pow-suc 10 (length ds))) (sym (decimal-from (0 + (d - 48)) ds))

pub decimal_cons : (d : ℕ) (ds : List ℕ) → decimal (d ∷ ds) ≡ (d - code "0") * 10 ^ length ds + decimal ds
unfolding decimal_from
decimal_cons d ds = decimal-from (0 + (d - 48)) ds ∙ rw zero-add

-- A row of w digits is below the w-th power of ten.
pub decimal_below : (ds : List ℕ) → every is_digit ds ≡ true → decimal ds < 10 ^ length ds
unfolding decimal_from
decimal_below [] e = lit< tt
decimal_below (d ∷ ds) e =
    let h = every_split is_digit d ds e in
    let b = between_bounds 48 57 d h.0 in
    omega (arith, decimal_cons d ds, pow-suc 10 (length ds), digits_lt {q = d - 48} {m = 10} (omega arith) (decimal_below ds h.1))

-- n in w digits
pub zeros_length : (w n : ℕ) → length (with_zeros w n) ≡ w
unfolding with_zeros
zeros_length zero n = refl
zeros_length (suc w) n = ap suc (zeros_length w (n % 10 ^ w))

pub one_digit : (n : ℕ) → with_zeros 1 n ≡ (code "0" + n) ∷ []
unfolding with_zeros
one_digit n = rw div-one

pub top_digit : (w n : ℕ) → n < 10 ^ suc w → n / 10 ^ w < 10
top_digit w n h = (div-lt_iff_lt-mul (ten_pos w)).1 (omega (arith, pow-suc 10 w))

pub zeros_digits : (w n : ℕ) → n < 10 ^ w → every is_digit (with_zeros w n) ≡ true
unfolding with_zeros every
zeros_digits zero n h = refl
zeros_digits (suc w) n h =
    every_cons is_digit (48 + n / 10 ^ w) (with_zeros w (n % 10 ^ w))
    (digit_of (n / 10 ^ w) (top_digit w n h))
    (zeros_digits w (n % 10 ^ w) (mod-lt n (ten_pos w)))

pub zeros_read : (w n : ℕ) → n < 10 ^ w → decimal (with_zeros w n) ≡ n
unfolding with_zeros decimal_from
zeros_read zero n h = omega arith
zeros_read (suc w) n h =
    decimal_cons (48 + n / 10 ^ w) (with_zeros w (n % 10 ^ w))
    ∙ rw (zeros_length w (n % 10 ^ w), zeros_read w (n % 10 ^ w) (mod-lt n (ten_pos w)), add-sub_cancel_left) (div-add-mod' n (10 ^ w))

-- A row of digits is its number, written in as many digits.
pub zeros_write : (t : List ℕ) → every is_digit t ≡ true → with_zeros (length t) (decimal t) ≡ t
unfolding with_zeros
zeros_write [] e = refl
zeros_write (d ∷ ds) e =
    let h = every_split is_digit d ds e in
    let b = between_bounds 48 57 d h.0 in
    let less = decimal_below ds h.1 in
    rw decimal_cons
    (ap₂ (λ (x : ℕ) (xs : List ℕ). x ∷ xs)
    (rw (digits_div (d - 48) less) (omega arith))
    (rw (digits_mod (d - 48) less) (zeros_write ds h.1)))

-- the digits of n in w bytes are a padded number too
pub digits_padded : (t : List ℕ) → 0 < length t → every is_digit t ≡ true → padded t ≡ true
unfolding padded
digits_padded [] l e = absurd (omega arith)
digits_padded (b ∷ bs) l e = rw (digit_no_space b (every_split is_digit b bs e).0) e

pub digits_padded_number : (t : List ℕ) → every is_digit t ≡ true → padded_number t ≡ decimal t
unfolding padded_number decimal_from
digits_padded_number [] e = refl
digits_padded_number (b ∷ bs) e = rw (digit_no_space b (every_split is_digit b bs e).0)

-- A padded number in w bytes is below the w-th power of ten.
pub padded_below : (t : List ℕ) → padded t ≡ true → padded_number t < 10 ^ length t
unfolding padded padded_number
padded_below [] e = absurd (false≢true e)
padded_below (b ∷ bs) e =
    ⊎_elim
    (λ (h : eqb b 32 ≡ true). rw h (lt_of_lt_of_le (padded_below bs (rw h at e)) (pow-le-pow_right (lit< tt) (le-suc (length bs)))))
    (λ (h : eqb b 32 ≡ false). rw h (decimal_below (b ∷ bs) (rw h at e)))
    (answer (eqb b 32))

-- A number with no leading zero is a row of digits, and stands in the writer's form with no space at all.
plain_digits : (t : List ℕ) → no_leading_zero t ≡ true → every is_digit t ≡ true
unfolding every
plain_digits [] e = absurd (false≢true e)
plain_digits (b ∷ []) e = every_cons is_digit b [] e refl
plain_digits (b ∷ c ∷ bs) e = (both (not (eqb b 48)) (every is_digit (b ∷ c ∷ bs)) e).1

plain_form : (b : ℕ) (bs : List ℕ) → no_leading_zero (b ∷ bs) ≡ true → spaces_in_front (b ∷ bs) ≡ true
unfolding spaces_in_front
plain_form b bs e = rw (digit_no_space b (every_split is_digit b bs (plain_digits (b ∷ bs) e)).0) e

-- one digit, and more digits of which the first is none too many
one_plain : (n : ℕ) → n < 10 ^ 1 → no_leading_zero (with_zeros 1 n) ≡ true
unfolding with_zeros
one_plain n h = digit_of (n / 1) (top_digit 0 n h)

more_plain : (w n : ℕ) → 10 ^ suc w ≤ n → n < 10 ^ suc (suc w) → no_leading_zero (with_zeros (suc (suc w)) n) ≡ true
unfolding with_zeros
more_plain w n low high =
    let first : 1 ≤ n / 10 ^ suc w = (le-div_iff_mul-le (ten_pos (suc w))).1 (omega arith) in
    both_pass
    (not (eqb (48 + n / 10 ^ suc w) 48))
    (every is_digit (with_zeros (suc (suc w)) n))
    (ap not (ne_eqb (48 + n / 10 ^ suc w) 48 (omega arith)))
    (zeros_digits (suc (suc w)) n high)

plain_high : (b c : ℕ) (bs : List ℕ) → no_leading_zero (b ∷ c ∷ bs) ≡ true → 10 ^ suc (length bs) ≤ decimal (b ∷ c ∷ bs)
plain_high b c bs e =
    let h = both (not (eqb b 48)) (every is_digit (b ∷ c ∷ bs)) e in
    let low = (between_bounds 48 57 b (every_split is_digit b (c ∷ bs) h.1).0).0 in
    let no = eqb-false b 48 (not-true (eqb b 48) h.0) in
    omega (arith, decimal_cons b (c ∷ bs), mul-le-mul_right {m = 1} {n = b - 48} (10 ^ suc (length bs)) (omega arith))

-- n in w bytes, spaces in front
pub spaces_length : (w n : ℕ) → length (with_spaces w n) ≡ w
unfolding with_spaces
spaces_length zero n = refl
spaces_length (suc zero) n = zeros_length 1 n
spaces_length (suc (suc w)) n =
    ⊎_elim
    (λ (h : ltb n (10 ^ suc w) ≡ true). rw h (ap suc (spaces_length (suc w) n)))
    (λ (h : ltb n (10 ^ suc w) ≡ false). rw h (zeros_length (suc (suc w)) n))
    (answer (ltb n (10 ^ suc w)))

pub spaces_form : (w n : ℕ) → 0 < w → n < 10 ^ w → spaces_in_front (with_spaces w n) ≡ true
unfolding with_spaces with_zeros spaces_in_front
spaces_form zero n p l = absurd (omega arith)
spaces_form (suc zero) n p l = plain_form (48 + n / 1) [] (one_plain n l)
spaces_form (suc (suc w)) n p l =
    ⊎_elim
    (λ (h : ltb n (10 ^ suc w) ≡ true). rw h (spaces_form (suc w) n (omega arith) (ltb-true n (10 ^ suc w) h)))
    (λ (h : ltb n (10 ^ suc w) ≡ false).
    rw h (plain_form (48 + n / 10 ^ suc w) (with_zeros (suc w) (n % 10 ^ suc w)) (more_plain w n (ltb-false n (10 ^ suc w) h) l)))
    (answer (ltb n (10 ^ suc w)))

pub spaces_read : (w n : ℕ) → 0 < w → n < 10 ^ w → padded_number (with_spaces w n) ≡ n
unfolding with_spaces padded_number
spaces_read zero n p l = absurd (omega arith)
spaces_read (suc zero) n p l = digits_padded_number (with_zeros 1 n) (zeros_digits 1 n l) ∙ zeros_read 1 n l
spaces_read (suc (suc w)) n p l =
    ⊎_elim
    (λ (h : ltb n (10 ^ suc w) ≡ true). rw h (spaces_read (suc w) n (omega arith) (ltb-true n (10 ^ suc w) h)))
    (λ (h : ltb n (10 ^ suc w) ≡ false).
    rw h (digits_padded_number (with_zeros (suc (suc w)) n) (zeros_digits (suc (suc w)) n l) ∙ zeros_read (suc (suc w)) n l))
    (answer (ltb n (10 ^ suc w)))

-- A text in the writer's form is a padded number, and its number written out.
pub form_padded : (t : List ℕ) → spaces_in_front t ≡ true → padded t ≡ true
unfolding padded spaces_in_front
form_padded [] e = absurd (false≢true e)
form_padded (b ∷ bs) e =
    ⊎_elim
    (λ (h : eqb b 32 ≡ true). rw h (form_padded bs (rw h at e)))
    (λ (h : eqb b 32 ≡ false). rw h (plain_digits (b ∷ bs) (rw h at e)))
    (answer (eqb b 32))

pub spaces_write : (t : List ℕ) → spaces_in_front t ≡ true → with_spaces (length t) (padded_number t) ≡ t
unfolding with_spaces spaces_in_front padded_number
spaces_write [] e = refl
spaces_write (b ∷ []) e =
    ⊎_elim
    (λ (h : eqb b 32 ≡ true). absurd (false≢true (rw h at e)))
    (λ (h : eqb b 32 ≡ false). rw h (zeros_write (b ∷ []) (plain_digits (b ∷ []) (rw h at e))))
    (answer (eqb b 32))
spaces_write (b ∷ c ∷ bs) e =
    ⊎_elim
    (λ (h : eqb b 32 ≡ true).
    let f : spaces_in_front (c ∷ bs) ≡ true = rw h at e in
    rw (h, lt-ltb _ _ (padded_below (c ∷ bs) (form_padded (c ∷ bs) f)))
    (ap₂ (λ (x : ℕ) (xs : List ℕ). x ∷ xs) (sym (eqb-true b 32 h)) (spaces_write (c ∷ bs) f)))
    (λ (h : eqb b 32 ≡ false).
    let f : no_leading_zero (b ∷ c ∷ bs) ≡ true = rw h at e in
    rw (h, le-ltb _ _ (plain_high b c bs f)) (zeros_write (b ∷ c ∷ bs) (plain_digits (b ∷ c ∷ bs) f)))
    (answer (eqb b 32))

-- n in w digits, as a padded number
pub zeros_padded : (w n : ℕ) → 0 < w → n < 10 ^ w → padded (with_zeros w n) ≡ true
zeros_padded w n p l = digits_padded (with_zeros w n) (rw zeros_length p) (zeros_digits w n l)

pub zeros_padded_read : (w n : ℕ) → n < 10 ^ w → padded_number (with_zeros w n) ≡ n
zeros_padded_read w n l = digits_padded_number (with_zeros w n) (zeros_digits w n l) ∙ zeros_read w n l

-- n with k bytes before the point and d digits behind it: its three parts
module _ (k d n : ℕ) where
  pub point_length : length (with_point k d n) ≡ suc (k + d)
  unfolding with_point
  point_length =
      length-append (with_spaces k (n / 10 ^ d)) (46 ∷ with_zeros d (n % 10 ^ d)) ∙ rw (spaces_length, zeros_length) (add-suc k d)

  pub point_front : take k (with_point k d n) ≡ with_spaces k (n / 10 ^ d)
  unfolding with_point
  point_front = take_at (with_spaces k (n / 10 ^ d)) _ k (spaces_length k (n / 10 ^ d))

  pub point_point : get_or (with_point k d n) k 0 ≡ code "."
  unfolding with_point
  point_point = get_or_at (with_spaces k (n / 10 ^ d)) 46 (with_zeros d (n % 10 ^ d)) 0 k (spaces_length k (n / 10 ^ d))

  pub point_behind : drop (suc k) (with_point k d n) ≡ with_zeros d (n % 10 ^ d)
  unfolding with_point
  point_behind = drop_behind (with_spaces k (n / 10 ^ d)) 46 (with_zeros d (n % 10 ^ d)) k (spaces_length k (n / 10 ^ d))

-- Written out and read back: the bytes before the point have room for what is left of n.
module _ (k d n : ℕ) (some : 0 < k) (fits : n < 10 ^ (k + d)) where
  front_fits : n / 10 ^ d < 10 ^ k
  front_fits = (div-lt_iff_lt-mul (ten_pos d)).1 (rw pow-add at fits)

  pub point_form : spaces_in_front (take k (with_point k d n)) ≡ true
  point_form = rw point_front (spaces_form k (n / 10 ^ d) some front_fits)

  pub point_pointed : pointed k (with_point k d n) ≡ true
  unfolding pointed
  point_pointed =
      rw (point_front, point_point, point_behind)
      (both_pass _ _ (both_pass _ _ (form_padded _ (spaces_form k (n / 10 ^ d) some front_fits)) refl) (zeros_digits d (n % 10 ^ d) (mod-lt n (ten_pos d))))

  pub point_read : pointed_number k (with_point k d n) ≡ n
  unfolding pointed_number
  point_read =
      rw (point_front, point_behind, spaces_read k (n / 10 ^ d) some front_fits)
      (decimal-from (n / 10 ^ d) (with_zeros d (n % 10 ^ d))
      ∙ rw (zeros_length, zeros_read d (n % 10 ^ d) (mod-lt n (ten_pos d))) (div-add-mod' n (10 ^ d)))

-- A text with k bytes before its point and d digits behind it.
module _ (k d : ℕ) (t : List ℕ) (l : length t ≡ suc (k + d)) where
  front_length : length (take k t) ≡ k
  front_length = length-take-le k t (omega arith)

  behind_length : length (drop (suc k) t) ≡ d
  behind_length = length-drop (suc k) t ∙ omega arith

  pointed-number : pointed_number k t ≡ padded_number (take k t) * 10 ^ d + decimal (drop (suc k) t)
  unfolding pointed_number
  pointed-number = decimal-from (padded_number (take k t)) (drop (suc k) t) ∙ rw behind_length

  pub pointed_below : pointed k t ≡ true → pointed_number k t < 10 ^ (k + d)
  unfolding pointed
  pointed_below e =
      let h = both (padded (take k t) && eqb (get_or t k 0) 46) (every is_digit (drop (suc k) t)) e in
      let g = both (padded (take k t)) (eqb (get_or t k 0) 46) h.0 in
      rw (pointed-number, pow-add)
      (digits_lt (rw front_length at (padded_below (take k t) g.0)) (rw behind_length at (decimal_below (drop (suc k) t) h.1)))

  pub point_write : pointed k t ≡ true → spaces_in_front (take k t) ≡ true → with_point k d (pointed_number k t) ≡ t
  unfolding pointed with_point
  point_write e f =
      let h = both (padded (take k t) && eqb (get_or t k 0) 46) (every is_digit (drop (suc k) t)) e in
      let point = eqb-true (get_or t k 0) 46 (both (padded (take k t)) (eqb (get_or t k 0) 46) h.0).1 in
      let less : decimal (drop (suc k) t) < 10 ^ d = rw behind_length at (decimal_below (drop (suc k) t) h.1) in
      let front : with_spaces k (padded_number (take k t)) ≡ take k t = rw front_length at (spaces_write (take k t) f) in
      let behind : with_zeros d (decimal (drop (suc k) t)) ≡ drop (suc k) t = rw behind_length at (zeros_write (drop (suc k) t) h.1) in
      rw (pointed-number, digits_div (padded_number (take k t)) less, digits_mod (padded_number (take k t)) less, front, behind, ← point)
      (sym (split_at t k 0 (omega arith)))

-- A hexadecimal digit is the digit of its number.
pub hex-digit : (n : ℕ) → n < 16 → is_hex_digit (hex_digit n) ≡ true
unfolding is_hex_digit hex_digit
hex-digit n l =
    ⊎_elim
    (λ (h : ltb n 10 ≡ true). rw (h, digit_of n (ltb-true n 10 h)))
    (λ (h : ltb n 10 ≡ false).
    let low = ltb-false n 10 h in
    simp (h, bounds_between 65 70 (65 + (n - 10)) (omega arith) (omega arith), or-true))
    (answer (ltb n 10))

pub hex_digit_read : (n : ℕ) → n < 16 → hex_digit_number (hex_digit n) ≡ n
unfolding hex_digit_number hex_digit
hex_digit_read n l =
    ⊎_elim
    (λ (h : ltb n 10 ≡ true). rw (h, digit_of n (ltb-true n 10 h)) (add-sub_cancel_left 48 n))
    (λ (h : ltb n 10 ≡ false).
    let low = ltb-false n 10 h in
    rw (h, letter_no_digit (65 + (n - 10)) (omega arith)) (omega arith))
    (answer (ltb n 10))

pub hex_digit_below : (b : ℕ) → is_hex_digit b ≡ true → hex_digit_number b < 16
unfolding is_hex_digit hex_digit_number
hex_digit_below b e =
    ⊎_elim
    (λ (h : is_digit b ≡ true). let r = between_bounds 48 57 b h in rw h (omega arith))
    (λ (h : between 65 70 b ≡ true). let r = between_bounds 65 70 b h in rw (letter_no_digit b (omega arith)) (omega arith))
    (either (is_digit b) (between 65 70 b) e)

pub hex_digit_write : (b : ℕ) → is_hex_digit b ≡ true → hex_digit (hex_digit_number b) ≡ b
unfolding is_hex_digit hex_digit_number hex_digit
hex_digit_write b e =
    ⊎_elim
    (λ (h : is_digit b ≡ true).
    let r = between_bounds 48 57 b h in
    rw (h, lt-ltb (b - 48) 10 (omega arith)) (omega arith))
    (λ (h : between 65 70 b ≡ true).
    let r = between_bounds 65 70 b h in
    rw (letter_no_digit b (omega arith), le-ltb (b - 65 + 10) 10 (omega arith)) (omega arith))
    (either (is_digit b) (between 65 70 b) e)

-- A byte is its two hexadecimal digits.
pub hex-digits : (n : ℕ) → n < 256 → every is_hex_digit (hex_digits n) ≡ true
unfolding every
hex-digits n l = rw (hex-digit (n / 16) (omega arith), hex-digit (n % 16) (omega arith))

pub hex_read : (n : ℕ) → n < 256 → hex_number (hex_digit (n / 16)) (hex_digit (n % 16)) ≡ n
hex_read n l = rw (hex_digit_read (n / 16) (omega arith), hex_digit_read (n % 16) (omega arith)) (omega arith)

pub hex_below : (u l : ℕ) → is_hex_digit u ≡ true → is_hex_digit l ≡ true → hex_number u l < 256
hex_below u l p q = omega (arith, hex_digit_below u p, hex_digit_below l q)

pub hex_write : (u l : ℕ) → is_hex_digit u ≡ true → is_hex_digit l ≡ true → hex_digits (hex_number u l) ≡ u ∷ l ∷ []
hex_write u l p q =
    rw (digits_div (hex_digit_number u) (hex_digit_below l q), digits_mod (hex_digit_number u) (hex_digit_below l q), hex_digit_write u p, hex_digit_write l q)
