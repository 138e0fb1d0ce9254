-- Laws of the fields of a sentence: decimal fields of any widths, the temperature, fields of two hexadecimal digits.
-- Rows of fields go by induction, from the law of one number in one field; a temperature in the writer's form has six
-- bytes, on which its rules compute. Assumes nothing.
use Prim.Native.Nat.{ℕ, zero, suc, ◌-◌, ◌^◌, ◌≤◌, ◌<◌, ◌%◌, ◌/◌}
use Prim.Native.Char.{code}
use mathlib.Core.Path.{◌≡◌, refl, sym, ◌∙◌, ap, ap₂, subst, subst⁻¹}
use mathlib.Core.Bool.{Bool, true, false, ◌&&◌, ◌||◌, cond, not, and-eq-true_iff, false≢true}
use mathlib.Core.List.{List, [], ◌∷◌, ◌++◌, map}
use mathlib.Core.Logic.{⊎_elim}
use native.Mathlib.Nat.{pow-le-pow_right, lt_of_lt_of_le}
use native.Mathlib.Omega.{arith}
use lib.Dec.{eqb, leb, ltb, lit≤}
use lib.IntN.{ℤ, pos, negsuc, neg_ℤ, nat_abs}
use lib.ListN.{length, drop, get_or, length-append, length-take, length-drop}
use borrow.Author.Tests.{eqb-true, eq-eqb, leb-true, le-leb, lt-ltb, ltb-true, ne_eqb}
use Rattle.rules.specs.Bytes.{ascii, every, one_of, between, first}
use Rattle.rules.specs.Numbers.{is_digit, decimal, decimal_from, is_hex_digit, hex_number, hex_digits, with_zeros}
use Rattle.rules.specs.Sentences.{is_payload_byte, is_decimal, are_decimals, fit, whole, tenth, is_temperature, temperature, is_hex_field, decimals, sign, temperature_text}
use Rattle.rules.specs.Form.{full_width, temperature_form}
use Rattle.frame_laws.proofs.Bytes.{both, tests, both_pass, either, between_bounds, bounds_between, every_cons, every_append, every_weaker, one_by_one}
use Rattle.frame_laws.proofs.Numbers.{decimal_below, zeros_length, zeros_digits, zeros_read, zeros_write, hex-digits, hex_read, hex_below, hex_write}
use Rattle.frame_laws.proofs.Sentences.{is_text_byte, digits_text, hex_digits_text}

-- Numbers that fit, written to their widths: the texts are decimal fields with all their digits, give the numbers back,
-- and hold text bytes alone.
pub record AsWritten (ws ns : List ℕ) (ts : List (List ℕ)) : Type 0 where
  pub good : are_decimals ws ts ≡ true
  pub full : full_width ws ts ≡ true
  pub read : map decimal ts ≡ ns
  pub texts : every (every is_text_byte) ts ≡ true

pub decimals_written : (ws ns : List ℕ) → every (leb 1) ws ≡ true → length ns ≡ length ws → fit ws ns ≡ true
    → AsWritten ws ns (decimals ws ns)
unfolding are_decimals full_width every decimals fit
decimals_written [] [] wide many fits = record { good = refl; full = refl; read = refl; texts = refl }
decimals_written [] (n ∷ ns) wide many fits = absurd (omega arith)
decimals_written (w ∷ ws) [] wide many fits = absurd (omega arith)
decimals_written (w ∷ ws) (n ∷ ns) wide many fits =
    let one = both (leb 1 w) (every (leb 1) ws) wide in
    let f = both (ltb n (10 ^ w)) (fit ws ns) fits in
    let rest = decimals_written ws ns one.1 (omega arith) f.1 in
    let small = ltb-true n (10 ^ w) f.0 in
    let t = with_zeros w n in
    let long = zeros_length w n in
    let digits = zeros_digits w n small in
    let size = bounds_between 1 w (length t) (omega (arith, leb-true 1 w one.0)) (omega arith) in
    record {
      good = both_pass (is_decimal w t) (are_decimals ws (decimals ws ns)) (both_pass (between 1 w (length t)) (every is_digit t) size digits) rest.good;
      full = both_pass (eqb (length t) w) (full_width ws (decimals ws ns)) (eq-eqb (length t) w long) rest.full;
      read = ap₂ ◌∷◌ (zeros_read w n small) rest.read;
      texts = every_cons (every is_text_byte) t (decimals ws ns) (digits_text t digits) rest.texts;
    }

-- Texts that are decimal fields: as many as the widths, with numbers that fit; and with all their digits they are what
-- their numbers are written as.
pub fields_many : (ws : List ℕ) (ts : List (List ℕ)) → are_decimals ws ts ≡ true → length ts ≡ length ws
unfolding are_decimals
fields_many [] [] good = refl
fields_many [] (t ∷ ts) good = absurd (false≢true good)
fields_many (w ∷ ws) [] good = absurd (false≢true good)
fields_many (w ∷ ws) (t ∷ ts) good = ap suc (fields_many ws ts (search tests))

row_below : (w : ℕ) (t : List ℕ) → every is_digit t ≡ true → length t ≤ w → decimal t < 10 ^ w
row_below w t digits short = lt_of_lt_of_le (decimal_below t digits) (pow-le-pow_right (lit≤ tt) short)

pub fields_fit : (ws : List ℕ) (ts : List (List ℕ)) → are_decimals ws ts ≡ true → fit ws (map decimal ts) ≡ true
unfolding are_decimals fit
fields_fit [] [] good = refl
fields_fit [] (t ∷ ts) good = refl
fields_fit (w ∷ ws) [] good = refl
fields_fit (w ∷ ws) (t ∷ ts) good =
    let short = leb-true (length t) w (search tests) in
    let below = lt-ltb (decimal t) (10 ^ w) (row_below w t (search tests) short) in
    both_pass (ltb (decimal t) (10 ^ w)) (fit ws (map decimal ts)) below (fields_fit ws ts (search tests))

pub fields_again : (ws : List ℕ) (ts : List (List ℕ)) → are_decimals ws ts ≡ true → full_width ws ts ≡ true → decimals ws (map decimal ts) ≡ ts
unfolding are_decimals full_width decimals
fields_again [] [] good full = refl
fields_again [] (t ∷ ts) good full = absurd (false≢true good)
fields_again (w ∷ ws) [] good full = absurd (false≢true good)
fields_again (w ∷ ws) (t ∷ ts) good full =
    let long = eqb-true (length t) w (search tests) in
    let again = subst (λ k. with_zeros k (decimal t) ≡ t) long (zeros_write t (search tests)) in
    ap₂ ◌∷◌ again (fields_again ws ts (search tests) (search tests))

-- A temperature that fits, written out, is four digits in two parts: it reads back the same, keeps the rules and the
-- writer's form, and holds text bytes alone.
tenths : (n : ℕ) → n ≤ 9999 → decimal (with_zeros 3 (n / 10) ++ with_zeros 1 (n % 10)) ≡ n
unfolding with_zeros decimal_from
tenths n fits = omega arith

pub temperature_read : (z : ℤ) → nat_abs z ≤ 9999 → temperature (temperature_text z) ≡ z
unfolding temperature temperature_text with_zeros
temperature_read (pos n) fits = ap pos (tenths n fits)
temperature_read (negsuc n) fits = ap (λ m. neg_ℤ (pos m)) (tenths (suc n) fits)

sign_good : (z : ℤ) → one_of (ascii "+-") (sign z) ≡ true
unfolding one_of
sign_good (pos n) = refl
sign_good (negsuc n) = refl

pub temperature_good : (z : ℤ) → nat_abs z ≤ 9999 → is_temperature (temperature_text z) ≡ true
unfolding is_temperature temperature_text with_zeros
temperature_good z fits =
    let three = zeros_digits 3 (nat_abs z / 10) (omega arith) in
    let last = zeros_digits 1 (nat_abs z % 10) (omega arith) in
    simp and-eq-true_iff (((sign_good z, ((refl, refl), three)), refl), last)

pub temperature-form : (z : ℤ) → nat_abs z ≤ 9999 → temperature_form (temperature_text z) ≡ true
unfolding temperature_form temperature_text with_zeros
temperature-form (pos n) fits = refl
temperature-form (negsuc n) fits =
    ap (λ z. not (eqb (nat_abs z) 0)) (temperature_read (negsuc n) fits) ∙ ap not (ne_eqb (suc n) 0 (omega arith))

sign_text : (z : ℤ) → is_text_byte (sign z) ≡ true
unfolding is_payload_byte
sign_text (pos n) = refl
sign_text (negsuc n) = refl

pub temperature-text : (z : ℤ) → nat_abs z ≤ 9999 → every is_text_byte (temperature_text z) ≡ true
unfolding temperature_text is_payload_byte
temperature-text z fits =
    let q = with_zeros 3 (nat_abs z / 10) in
    let r = with_zeros 1 (nat_abs z % 10) in
    let three = digits_text q (zeros_digits 3 (nat_abs z / 10) (omega arith)) in
    let last = digits_text r (zeros_digits 1 (nat_abs z % 10) (omega arith)) in
    every_cons is_text_byte (sign z) (q ++ code "." ∷ r) (sign_text z)
    (every_append is_text_byte q (code "." ∷ r) three (every_cons is_text_byte (code ".") r refl last))

-- What is read is a count of tenths, at most 9999, with a sign;
size_of : (t : List ℕ) → nat_abs (temperature t) ≡ decimal (whole t ++ tenth t)
unfolding temperature
size_of t = by_sign (eqb (first t) (code "-")) (decimal (whole t ++ tenth t))
  where
    by_sign : (minus : Bool) (n : ℕ) → nat_abs (cond minus (neg_ℤ (pos n)) (pos n)) ≡ n
    by_sign true zero = refl
    by_sign true (suc n) = refl
    by_sign false n = refl

pub temperature_bound : (t : List ℕ) → is_temperature t ≡ true → nat_abs (temperature t) ≤ 9999
unfolding is_temperature
temperature_bound t good =
    let digits = every_append is_digit (whole t) (tenth t) (search tests) (search tests) in
    let three = leb-true (length (whole t)) 3 (search tests) in
    let four : length (whole t ++ tenth t) ≤ 4 = omega (arith, length-append (whole t) (tenth t), length-drop (length t - 1) t) in
    omega (arith, size_of t, row_below 4 (whole t ++ tenth t) digits four)

-- and in the writer's form a text is what its temperature is written as: its sign, its three digits and its last one.
sign_again : (s n : ℕ) → one_of (ascii "+-") s ≡ true → not (eqb s (code "-") && eqb n 0) ≡ true
    → sign (cond (eqb s (code "-")) (neg_ℤ (pos n)) (pos n)) ≡ s
unfolding one_of
sign_again s n one form = by_sign (eqb s (code "-")) n refl form one
  where
    by_sign : (minus : Bool) (n : ℕ) → eqb s (code "-") ≡ minus → not (minus && eqb n 0) ≡ true
        → (eqb s (code "+") || (minus || false)) ≡ true → sign (cond minus (neg_ℤ (pos n)) (pos n)) ≡ s
    by_sign true zero e form one = absurd (false≢true form)
    by_sign true (suc n) e form one = sym (eqb-true s (code "-") e)
    by_sign false n e form one =
        ⊎_elim (λ plus. sym (eqb-true s (code "+") plus)) (λ none. absurd (false≢true none)) (either (eqb s (code "+")) false one)

digits_again : (a b c d : ℕ) → every is_digit (a ∷ b ∷ c ∷ []) ≡ true → every is_digit (d ∷ []) ≡ true
    → (with_zeros 3 (decimal (a ∷ b ∷ c ∷ d ∷ []) / 10) ≡ a ∷ b ∷ c ∷ []) × (with_zeros 1 (decimal (a ∷ b ∷ c ∷ d ∷ []) % 10) ≡ d ∷ [])
unfolding decimal_from every
digits_again a b c d three last =
    let bounds = between_bounds 48 57 d (both (is_digit d) true last).0 in
    let q : decimal (a ∷ b ∷ c ∷ d ∷ []) / 10 ≡ decimal (a ∷ b ∷ c ∷ []) = omega arith in
    let r : decimal (a ∷ b ∷ c ∷ d ∷ []) % 10 ≡ decimal (d ∷ []) = omega arith in
    (ap (with_zeros 3) q ∙ zeros_write (a ∷ b ∷ c ∷ []) three, ap (with_zeros 1) r ∙ zeros_write (d ∷ []) last)

abbrev six : ℕ → ℕ → ℕ → ℕ → ℕ → ℕ → List ℕ
six s a b c p d = s ∷ a ∷ b ∷ c ∷ p ∷ d ∷ []

six_again : (s a b c p d : ℕ) → is_temperature (six s a b c p d) ≡ true → temperature_form (six s a b c p d) ≡ true
    → temperature_text (temperature (six s a b c p d)) ≡ six s a b c p d
unfolding is_temperature temperature_form temperature_text temperature
six_again s a b c p d good form =
    let size = size_of (six s a b c p d) in
    let not_minus_zero = subst (λ n. not (eqb s (code "-") && eqb n 0) ≡ true) size form in
    let one = sign_again s (decimal (a ∷ b ∷ c ∷ d ∷ [])) (search tests) not_minus_zero in
    let digits = digits_again a b c d (search tests) (search tests) in
    let point = sym (eqb-true p (code ".") (search tests)) in
    ap₂ ◌∷◌ one
    (ap₂ ◌++◌ (ap (λ n. with_zeros 3 (n / 10)) size ∙ digits.0) (ap₂ ◌∷◌ point (ap (λ n. with_zeros 1 (n % 10)) size ∙ digits.1)))

six_bytes : (t : List ℕ) → temperature_form t ≡ true → length t ≡ 6
unfolding temperature_form
six_bytes t form =
    let three = eqb-true (length (whole t)) 3 (search tests) in
    omega (arith, length-take (length t - 3) (drop 1 t), length-drop 1 t)

pub temperature_again : (t : List ℕ) → is_temperature t ≡ true → temperature_form t ≡ true → temperature_text (temperature t) ≡ t
temperature_again t good form =
    subst (λ l. is_temperature l ≡ true → temperature_form l ≡ true → temperature_text (temperature l) ≡ l)
    (one_by_one 0 6 t (six_bytes t form))
    (six_again (get_or t 0 0) (get_or t 1 0) (get_or t 2 0) (get_or t 3 0) (get_or t 4 0) (get_or t 5 0)) good form

-- Fields of two hexadecimal digits. Numbers of a byte, written out, are such fields and come back;
abbrev pub is_byte : ℕ → Bool
is_byte n = leb n 255

abbrev pub hex_of : List ℕ → ℕ
hex_of t = hex_number (get_or t 0 0) (get_or t 1 0)

pub hexes_good : (ns : List ℕ) → every is_byte ns ≡ true → every is_hex_field (map hex_digits ns) ≡ true
unfolding every
hexes_good [] h = refl
hexes_good (n ∷ ns) h =
    let e = both (is_byte n) (every is_byte ns) h in
    both_pass (is_hex_field (hex_digits n)) (every is_hex_field (map hex_digits ns))
    (hex-digits n (omega (arith, leb-true n 255 e.0))) (hexes_good ns e.1)

pub hexes_read : (ns : List ℕ) → every is_byte ns ≡ true → map hex_of (map hex_digits ns) ≡ ns
unfolding every
hexes_read [] h = refl
hexes_read (n ∷ ns) h =
    let e = both (is_byte n) (every is_byte ns) h in
    ap₂ ◌∷◌ (hex_read n (omega (arith, leb-true n 255 e.0))) (hexes_read ns e.1)

-- each such field holds text bytes and a number of a byte, and is what that number is written as.
two_digits : (t : List ℕ) → is_hex_field t ≡ true
    → (is_hex_digit (get_or t 0 0) ≡ true) × (is_hex_digit (get_or t 1 0) ≡ true) × (get_or t 0 0 ∷ get_or t 1 0 ∷ [] ≡ t)
unfolding every
two_digits t good =
    let h = both (eqb (length t) 2) (every is_hex_digit t) good in
    let two = one_by_one 0 2 t (eqb-true (length t) 2 h.0) in
    let d = simp and-eq-true_iff at (subst⁻¹ (λ u. every is_hex_digit u ≡ true) two h.1) in
    (d.0, d.1.0, two)

pub hexes_text : (ts : List (List ℕ)) → every is_hex_field ts ≡ true → every (every is_text_byte) ts ≡ true
hexes_text = every_weaker is_hex_field (every is_text_byte) (λ t good. hex_digits_text t (both (eqb (length t) 2) (every is_hex_digit t) good).1)

pub hexes_bytes : (ts : List (List ℕ)) → every is_hex_field ts ≡ true → every is_byte (map hex_of ts) ≡ true
unfolding every
hexes_bytes [] h = refl
hexes_bytes (t ∷ ts) h =
    let e = both (is_hex_field t) (every is_hex_field ts) h in
    let d = two_digits t e.0 in
    both_pass (is_byte (hex_of t)) (every is_byte (map hex_of ts))
    (le-leb (hex_of t) 255 (omega (arith, hex_below (get_or t 0 0) (get_or t 1 0) d.0 d.1))) (hexes_bytes ts e.1)

pub hexes_again : (ts : List (List ℕ)) → every is_hex_field ts ≡ true → map hex_digits (map hex_of ts) ≡ ts
unfolding every
hexes_again [] h = refl
hexes_again (t ∷ ts) h =
    let e = both (is_hex_field t) (every is_hex_field ts) h in
    let d = two_digits t e.0 in
    ap₂ ◌∷◌ (hex_write (get_or t 0 0) (get_or t 1 0) d.0 d.1 ∙ d.2) (hexes_again ts e.1)
