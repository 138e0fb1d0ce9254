-- The rules of a sentence's texts, as a row of fields with nothing behind it: that is how they are read.
-- By induction on the texts. Assumes nothing.
use Rattle.std.proofs.Common.{◌≡◌, ℕ, zero, suc, ◌/◌, ◌≤◌, ◌<◌, Bool, true, false, cond, ◌&&◌, eqb, leb, List, [], ◌∷◌, Option, Some, None, Err, Ok, ℤ, length, take, drop, get_or, replicate, refl, sym, ap, ◌∙◌, arith, lit<, bit_and, leb-true, map}
use mathlib.Core.Bool.{and_assoc, and-true, and-false}
use lib.Dec.{eqb-zero-suc, eqb-suc-zero, eqb-suc-suc}
use lib.Seq.{drop-drop, get_or-drop}
use lib.Bits.{and_mask}
use Rattle.rules.specs.Bytes.{between, every}
use Rattle.rules.specs.Numbers.{is_digit, decimal}
use Rattle.texts.specs.Numbers.{digits_in}
use Rattle.rules.specs.Sentences.{behind_commas, is_decimal, are_decimals, widths02, is02, sentence02, in_range02, is_temperature, temperature, widths03, is03, sentence03, in_range03, is_hex_field, is05, sentence05}
use Rattle.rules.specs.declared.Refusal.TheVariants.{NotGood}
use Rattle.rules.specs.declared.Sentence02.{Sentence02}
use Rattle.rules.specs.declared.Sentence03.{Sentence03}
use Rattle.rules.specs.declared.Sentence05.{Sentence05}
use Rattle.rules.specs.declared.Frame.{Frame}
use Rattle.frame_laws.proofs.Bytes.{every_split}
use Rattle.texts.proofs.FieldEnds.{by_first}
use Rattle.alpha.specs.Fields.{Text, decimal_in, hex_value, hex_in, degrees_in, first_in, First, onto_row, row_in, Row}
use Rattle.alpha.specs.Readings.{frame_if}
use Rattle.alpha.proofs.Texts.{taken, left_out, decimal_test}

-- No text stands behind the last field where no byte does.
abbrev pub ended : List Text → Bool
ended [] = true
ended (t ∷ ts) = false

pub more_bytes : (rest : List ℕ) → 1 ≤ length rest → ended (behind_commas rest) ≡ false
more_bytes [] h = absurd (omega arith)
more_bytes (b ∷ bs) h = rw (by_first bs)

pub no_bytes : (rest : List ℕ) → length rest ≤ 0 → ended (behind_commas rest) ≡ true
no_bytes [] h = refl
no_bytes (b ∷ bs) h = absurd (omega arith)

-- A row that is read: each value is that of its text.
onto_some : {A : Type 0} (o : Option A) (row : Option (List A)) {vs : List A} → onto_row o row ≡ Some vs
    → (v : A) × ((us : List A) × ((o ≡ Some v) × (row ≡ Some us) × (vs ≡ v ∷ us)))
onto_some None row e = cc
onto_some (Some v) None e = cc
onto_some (Some v) (Some us) e = (v, (us, (refl, refl, cc)))

module _ {read : ℕ → Text → Option ℕ} (value : Text → ℕ) (told : (w : ℕ) (t : Text) (v : ℕ) → read w t ≡ Some v → v ≡ value t) where
  pub each_value : (ws : List ℕ) (ts : List Text) (vs : List ℕ) → row_in read ws ts ≡ Some vs → (k : ℕ) → k < length ws
      → get_or vs k 0 ≡ value (get_or ts k [])
  unfolding row_in
  each_value [] ts vs e k h = absurd (omega arith)
  each_value (w ∷ ws) [] vs e k h = cc
  each_value (w ∷ ws) (t ∷ ts) vs e zero h =
      let (v, (us, (p, q, r))) = onto_some (read w t) (row_in read ws ts) e in
      rw r (told w t v p)
  each_value (w ∷ ws) (t ∷ ts) vs e (suc k) h =
      let (v, (us, (p, q, r))) = onto_some (read w t) (row_in read ws ts) e in
      rw r (each_value ws ts us q k (omega arith))

-- Decimal fields: they are read where each text is one of its width.
onto_both : {A : Type 0} (a b : Bool) (x : A) (xs : List A) → onto_row (cond a (Some x) None) (cond b (Some xs) None) ≡ cond (a && b) (Some (x ∷ xs)) None
onto_both true true x xs = refl
onto_both true false x xs = refl
onto_both false b x xs = refl

read_decimals : (ws : List ℕ) (ts : List Text) → every (λ w. leb w 9) ws ≡ true
    → row_in decimal_in ws ts ≡ cond (are_decimals ws (take (length ws) ts)) (Some (map decimal (take (length ws) ts))) None
unfolding row_in are_decimals
read_decimals [] ts e = refl
read_decimals (w ∷ ws) [] e = refl
read_decimals (w ∷ ws) (t ∷ ts) e =
    let f = every_split (λ w. leb w 9) w ws e in
    rw (decimal_test w t (leb-true w 9 f.0), read_decimals ws ts f.1) (onto_both (is_decimal w t) _ (decimal t) _)

module _ (ws : List ℕ) (ts : List Text) (narrow : every (λ w. leb w 9) ws ≡ true) where
  no_decimals : row_in decimal_in ws ts ≡ None → are_decimals ws (take (length ws) ts) ≡ false
  no_decimals e = left_out _ _ (sym e ∙ read_decimals ws ts narrow)

  some_decimals : {vs : List ℕ} → row_in decimal_in ws ts ≡ Some vs → are_decimals ws (take (length ws) ts) ≡ true
  some_decimals e = (taken _ _ (sym e ∙ read_decimals ws ts narrow)).0

all_decimals : (ws : List ℕ) (ts : List Text) → are_decimals ws ts ≡ are_decimals ws (take (length ws) ts) && ended (drop (length ws) ts)
unfolding are_decimals
all_decimals [] [] = refl
all_decimals [] (t ∷ ts) = refl
all_decimals (w ∷ ws) [] = refl
all_decimals (w ∷ ws) (t ∷ ts) =
    ap (λ (b : Bool). is_decimal w t && b) (all_decimals ws ts)
    ∙ sym (and_assoc (is_decimal w t) (are_decimals ws (take (length ws) ts)) (ended (drop (length ws) ts)))

by_tests : (a b : Bool) {n v : ℕ} → cond a (cond b (Some n) None) None ≡ Some v → v ≡ n
by_tests true true e = cc
by_tests true false e = cc
by_tests false b e = cc

decimal_told : (w : ℕ) (t : Text) (v : ℕ) → decimal_in w t ≡ Some v → v ≡ decimal t
unfolding digits_in
decimal_told w t v e = by_tests (leb (length t) w) (between 1 9 (length t) && every is_digit t) e

-- Fields of two hexadecimal digits.
hex_told : (w : ℕ) (t : Text) (v : ℕ) → hex_in t ≡ Some v → v ≡ hex_value t
hex_told w t v e = (taken (is_hex_field t) (hex_value t) (sym e)).1

abbrev are_hexes : ℕ → List Text → Bool
are_hexes n ts = eqb (length ts) n && every is_hex_field ts

turned : (a b c : Bool) → a && (b && c) ≡ b && (a && c)
turned true b c = refl
turned false b c = sym (and-false b)

read_hexes : (ws : List ℕ) (ts : List Text) → row_in (λ w t. hex_in t) ws ts
    ≡ cond (are_hexes (length ws) (take (length ws) ts)) (Some (map hex_value (take (length ws) ts))) None
unfolding row_in every
read_hexes [] ts = refl
read_hexes (w ∷ ws) [] = rw eqb-zero-suc
read_hexes (w ∷ ws) (t ∷ ts) =
    let first = take (length ws) ts in
    rw (read_hexes ws ts, eqb-suc-suc, turned (eqb (length first) (length ws)) (is_hex_field t) (every is_hex_field first))
    (onto_both (is_hex_field t) (are_hexes (length ws) first) (hex_value t) (map hex_value first))

swapped : (a b c d e f : Bool) → a && c ≡ (d && f) && e → a && (b && c) ≡ (d && (b && f)) && e
swapped a true c d e f q = q
swapped a false c d e f q = rw (and-false a, and-false d)

all_hexes : (n : ℕ) (ts : List Text) → are_hexes n ts ≡ are_hexes n (take n ts) && ended (drop n ts)
unfolding every
all_hexes zero [] = refl
all_hexes zero (t ∷ ts) = rw eqb-suc-zero
all_hexes (suc n) [] = rw eqb-zero-suc
all_hexes (suc n) (t ∷ ts) =
    simp eqb-suc-suc
    (swapped (eqb (length ts) n) (is_hex_field t) (every is_hex_field ts) (eqb (length (take n ts)) n) (ended (drop n ts)) (every is_hex_field (take n ts)) (all_hexes n ts))

-- A sentence that is refused, and one that is good.
pub refused : {keeps : Bool} (frame : Frame) → keeps ≡ false → Err NotGood ≡ frame_if keeps frame
refused frame e = rw e

pub accepted : {keeps : Bool} {f g : Frame} → keeps ≡ true → f ≡ g → Ok f ≡ frame_if keeps g
accepted e q = rw (e, q)

-- Sentence 02, read as a row of decimal fields.
pub no_row02 : (ts : List Text) → row_in decimal_in widths02 ts ≡ None → is02 ts ≡ false
unfolding is02 every
no_row02 ts e = rw (all_decimals widths02 ts, no_decimals widths02 ts refl e)

module _ {ts : List Text} {vs rest : List ℕ} (row : Row decimal_in widths02 ts vs rest) where
  pub more02 : 1 ≤ length rest → is02 ts ≡ false
  unfolding is02
  more02 h = rw (all_decimals widths02 ts, ← row.behind, more_bytes rest h, and-false)

  pub is_row02 : length rest ≤ 0 → is02 ts ≡ in_range02 (sentence02 ts)
  unfolding is02 every
  is_row02 h = rw (all_decimals widths02 ts, some_decimals widths02 ts refl row.values, ← row.behind, no_bytes rest h)

  pub record02 : ◌≡◌ {A = Sentence02} (record {
    pfwd = get_or vs 0 0;
    swr = get_or vs 1 0;
    pin = get_or vs 2 0;
    vp = get_or vs 3 0;
    ip = get_or vs 4 0;
    gain = get_or vs 5 0;
    vg = get_or vs 6 0;
    ig = get_or vs 7 0;
    band = get_or vs 8 0;
    state = get_or vs 9 0;
    fault = get_or vs 10 0;
    key = get_or vs 11 0;
    pep = get_or vs 12 0;
  }) (sentence02 ts)
  unfolding sentence02
  record02 =
      let v = each_value decimal decimal_told widths02 ts vs row.values in
      rw (
        v 0 (lit< tt),
        v 1 (lit< tt),
        v 2 (lit< tt),
        v 3 (lit< tt),
        v 4 (lit< tt),
        v 5 (lit< tt),
        v 6 (lit< tt),
        v 7 (lit< tt),
        v 8 (lit< tt),
        v 9 (lit< tt),
        v 10 (lit< tt),
        v 11 (lit< tt),
        v 12 (lit< tt),
      )

-- Sentence 03, read as a row of decimal fields and a temperature.
first_is : (Text → Bool) → List Text → Bool
first_is test [] = false
first_is test (t ∷ ts) = test t

-- the last text of n + 1
last_text : (test : Text → Bool) (n : ℕ) (ts : List Text)
    → eqb (length ts) (suc n) && test (get_or ts n []) ≡ first_is test (drop n ts) && ended (drop (suc n) ts)
unfolding first_is
last_text test zero [] = refl
last_text test zero (t ∷ []) = sym (and-true (test t))
last_text test zero (t ∷ u ∷ ts) = rw (eqb-suc-suc, eqb-suc-zero) (sym (and-false (test t)))
last_text test (suc n) [] = rw (eqb-zero-suc)
last_text test (suc n) (t ∷ ts) = rw (eqb-suc-suc) (last_text test n ts)

parts03 : (ts : List Text)
    → is03 ts ≡ are_decimals widths03 (take 8 ts) && (first_is is_temperature (drop 8 ts) && ended (drop 9 ts)) && in_range03 (sentence03 ts)
unfolding is03
parts03 ts =
    ap (λ (b : Bool). b && in_range03 (sentence03 ts))
    (and_assoc (are_decimals widths03 (take 8 ts)) (eqb (length ts) 9) (is_temperature (get_or ts 8 []))
    ∙ ap (λ (b : Bool). are_decimals widths03 (take 8 ts) && b) (last_text is_temperature 8 ts))

no_degrees : (ts : List Text) → first_in degrees_in ts ≡ None → first_is is_temperature ts ≡ false
unfolding first_is
no_degrees [] e = refl
no_degrees (t ∷ ts) e = left_out (is_temperature t) (temperature t) (sym e)

some_degrees : (ts : List Text) {v : ℤ} → first_in degrees_in ts ≡ Some v → (first_is is_temperature ts ≡ true) × (v ≡ temperature (get_or ts 0 []))
unfolding first_is
some_degrees [] e = cc
some_degrees (t ∷ ts) e = taken (is_temperature t) (temperature t) (sym e)

pub no_row03 : (ts : List Text) → row_in decimal_in widths03 ts ≡ None → is03 ts ≡ false
unfolding every
no_row03 ts e = rw (parts03 ts, no_decimals widths03 ts refl e)

module _ {ts : List Text} {vs rest : List ℕ} (row : Row decimal_in widths03 ts vs rest) where
  pub no_last03 : first_in degrees_in (behind_commas rest) ≡ None → is03 ts ≡ false
  no_last03 e = rw (parts03 ts, ← row.behind, no_degrees (behind_commas rest) e, and-false)

  module _ {temp : ℤ} {last : List ℕ} (field : First degrees_in (behind_commas rest) temp last) where
    behind : behind_commas last ≡ drop 9 ts
    behind = field.behind ∙ rw (row.behind, drop-drop)

    found : (first_is is_temperature (drop 8 ts) ≡ true) × (temp ≡ temperature (get_or ts 8 []))
    found =
        let f = some_degrees (behind_commas rest) field.value in
        (rw (← row.behind) f.0, f.1 ∙ rw (row.behind, get_or-drop))

    pub more03 : 1 ≤ length last → is03 ts ≡ false
    more03 h = rw (parts03 ts, ← behind, more_bytes last h) (simp and-false)

    pub is_row03 : length last ≤ 0 → is03 ts ≡ in_range03 (sentence03 ts)
    unfolding every
    is_row03 h = rw (parts03 ts, some_decimals widths03 ts refl row.values, found.0, ← behind, no_bytes last h)

    pub record03 : {kept : ℤ} → kept ≡ temp → ◌≡◌ {A = Sentence03} (record {
      v5 = get_or vs 0 0;
      v12 = get_or vs 1 0;
      v24 = get_or vs 2 0;
      m12 = get_or vs 3 0;
      v40 = get_or vs 4 0;
      acline = get_or vs 5 0;
      mbstatus = get_or vs 6 0;
      mbtap = get_or vs 7 0;
      temp = kept;
    }) (sentence03 ts)
    unfolding sentence03
    record03 q =
        let v = each_value decimal decimal_told widths03 ts vs row.values in
        rw (
          v 0 (lit< tt),
          v 1 (lit< tt),
          v 2 (lit< tt),
          v 3 (lit< tt),
          v 4 (lit< tt),
          v 5 (lit< tt),
          v 6 (lit< tt),
          v 7 (lit< tt),
          q,
          found.1,
        )

-- Sentence 05, read as a row of seven fields of two hexadecimal digits.
abbrev pub Row05 : List Text → List ℕ → List ℕ → Type 0
Row05 ts vs rest = Row (λ w t. hex_in t) (replicate 7 2) ts vs rest

pub no_row05 : (ts : List Text) → row_in (λ w t. hex_in t) (replicate 7 2) ts ≡ None → is05 ts ≡ false
unfolding is05
no_row05 ts e = rw (all_hexes 7 ts, left_out _ _ (sym e ∙ read_hexes (replicate 7 2) ts))

module _ {ts : List Text} {vs rest : List ℕ} (row : Row05 ts vs rest) where
  pub more05 : 1 ≤ length rest → is05 ts ≡ false
  unfolding is05
  more05 h = rw (all_hexes 7 ts, ← row.behind, more_bytes rest h, and-false)

  pub is_row05 : length rest ≤ 0 → is05 ts ≡ true
  unfolding is05
  is_row05 h = rw (all_hexes 7 ts, (taken _ _ (sym row.values ∙ read_hexes (replicate 7 2) ts)).0, ← row.behind, no_bytes rest h)

  pub record05 : ◌≡◌ {A = Sentence05} (record {
    band = get_or vs 0 0 / 16;
    segment = bit_and (get_or vs 0 0) 15;
    memory = get_or vs 1 0 / 16;
    antenna = bit_and (get_or vs 1 0) 15;
    meter = get_or vs 2 0 / 16;
    control = bit_and (get_or vs 2 0) 15;
    options = get_or vs 3 0 / 16;
    state = bit_and (get_or vs 3 0) 15;
    wtime = get_or vs 4 0;
    tcmd = get_or vs 5 0;
    lcmd = get_or vs 6 0;
  }) (sentence05 ts)
  unfolding sentence05
  record05 =
      let v = each_value hex_value hex_told (replicate 7 2) ts vs row.values in
      rw (
        and_mask (get_or vs 0 0) 4,
        and_mask (get_or vs 1 0) 4,
        and_mask (get_or vs 2 0) 4,
        and_mask (get_or vs 3 0) 4,
        v 0 (lit< tt),
        v 1 (lit< tt),
        v 2 (lit< tt),
        v 3 (lit< tt),
        v 4 (lit< tt),
        v 5 (lit< tt),
        v 6 (lit< tt),
      )
