-- Laws of the records of sentences 02, 03 and 05: each kind reads what it writes, and writes again what it read from
-- the writer's form.
-- Texts are taken as the list of those at their places, on which the definitions compute; what is left are the laws of
-- the fields. Assumes nothing.
use Prim.Native.Nat.{ℕ, ◌+◌, ◌*◌, ◌/◌, ◌%◌, ◌≤◌}
use mathlib.Core.Path.{◌≡◌, refl, ◌∙◌, ap, ap₂, subst, subst⁻¹}
use mathlib.Core.Bool.{Bool, true, ◌&&◌, and-eq-true_iff}
use mathlib.Core.List.{List, [], ◌∷◌, ◌++◌, map}
use borrow.Author.Tests.{eqb-true, leb-true, le-leb}
use native.Mathlib.Omega.{arith}
use lib.Dec.{eqb, leb, lit≤}
use lib.IntN.{ℤ, nat_abs}
use lib.ListN.{length, take, get_or}
use Rattle.rules.specs.Bytes.{every}
use Rattle.rules.specs.Numbers.{decimal, hex_digits, with_zeros}
use Rattle.rules.specs.Sentences.{commas, decimals, are_decimals, widths02, numbers02, in_range02, is02, sentence02, texts02, widths03, numbers03, in_range03, is03, sentence03, texts03, temperature_text, is_hex_field, hex_at, in_range05, is05, sentence05, texts05}
use Rattle.rules.specs.Form.{full_width, temperature_form}
use Rattle.rules.specs.declared.Sentence02.{Sentence02}
use Rattle.rules.specs.declared.Sentence03.{Sentence03}
use Rattle.rules.specs.declared.Sentence05.{Sentence05}
use Rattle.frame_laws.proofs.Bytes.{both, tests, places, one_by_one, both_pass, every_cons, every_append}
use Rattle.frame_laws.proofs.Sentences.{is_text_byte}
use Rattle.frame_laws.proofs.SentenceFields.{AsWritten, decimals_written, fields_many, fields_again, temperature_good, temperature_read, temperature-form, temperature-text, temperature_again, is_byte, hex_of, hexes_good, hexes_read, hexes_text, hexes_bytes, hexes_again}

-- The laws of a kind of sentence with a record. `is` are the rules of its texts, `form` the writer's form; 123 is what
-- the longest payload has behind its number.
pub record SentenceKind {R : Type 0} (is : List (List ℕ) → Bool) (read : List (List ℕ) → R) (write : R → List (List ℕ))
    (in_range : R → Bool) (form : List (List ℕ) → Bool) : Type 0 where
  pub good : (r : R) → in_range r ≡ true → is (write r) ≡ true
  pub back : (r : R) → in_range r ≡ true → read (write r) ≡ r
  pub clean : (r : R) → in_range r ≡ true → every (every is_text_byte) (write r) ≡ true
  pub short : (r : R) → in_range r ≡ true → length (commas (write r)) ≤ 123
  pub full : (r : R) → in_range r ≡ true → form (write r) ≡ true
  pub range : (ts : List (List ℕ)) → is ts ≡ true → in_range (read ts) ≡ true
  pub again : (ts : List (List ℕ)) → is ts ≡ true → form ts ≡ true → write (read ts) ≡ ts

-- Sentence 02: its record is its numbers in a row.
from02 : List ℕ → Sentence02
from02 ns = record {
  pfwd = get_or ns 0 0;
  swr = get_or ns 1 0;
  pin = get_or ns 2 0;
  vp = get_or ns 3 0;
  ip = get_or ns 4 0;
  gain = get_or ns 5 0;
  vg = get_or ns 6 0;
  ig = get_or ns 7 0;
  band = get_or ns 8 0;
  state = get_or ns 9 0;
  fault = get_or ns 10 0;
  key = get_or ns 11 0;
  pep = get_or ns 12 0;
}

written02 : (r : Sentence02) → in_range02 r ≡ true → AsWritten widths02 (numbers02 r) (texts02 r)
unfolding in_range02 every numbers02
written02 r fits = decimals_written widths02 (numbers02 r) refl refl (search tests)

back02 : (r : Sentence02) → in_range02 r ≡ true → sentence02 (texts02 r) ≡ r
unfolding from02 sentence02 numbers02 decimals
back02 r fits = ap from02 (written02 r fits).read

again02 : (ts : List (List ℕ)) → is02 ts ≡ true → full_width widths02 ts ≡ true → texts02 (sentence02 ts) ≡ ts
unfolding is02 sentence02 numbers02
again02 ts good form =
    let fields : are_decimals widths02 ts ≡ true = search tests in
    ap (λ us. decimals widths02 (map decimal us)) (one_by_one [] 13 ts (fields_many widths02 ts fields))
    ∙ fields_again widths02 ts fields form

good02 : (r : Sentence02) → in_range02 r ≡ true → is02 (texts02 r) ≡ true
unfolding is02
good02 r fits = simp and-eq-true_iff ((written02 r fits).good, ap in_range02 (back02 r fits) ∙ fits)

pub kind02 : SentenceKind is02 sentence02 texts02 in_range02 (full_width widths02)
unfolding is02 decimals numbers02 commas with_zeros
kind02 = record {
  good = good02;
  back = back02;
  clean = λ r fits. (written02 r fits).texts;
  short = λ r fits. lit≤ tt;
  full = λ r fits. (written02 r fits).full;
  range = λ ts good. search tests;
  again = again02;
}

-- Sentence 03: its numbers in a row, then the temperature.
from03 : List ℕ → ℤ → Sentence03
from03 ns z = record {
  v5 = get_or ns 0 0;
  v12 = get_or ns 1 0;
  v24 = get_or ns 2 0;
  m12 = get_or ns 3 0;
  v40 = get_or ns 4 0;
  acline = get_or ns 5 0;
  mbstatus = get_or ns 6 0;
  mbtap = get_or ns 7 0;
  temp = z;
}

written03 : (r : Sentence03) → in_range03 r ≡ true → AsWritten widths03 (numbers03 r) (decimals widths03 (numbers03 r))
unfolding in_range03 every numbers03
written03 r fits = decimals_written widths03 (numbers03 r) refl refl (search tests)

small03 : (r : Sentence03) → in_range03 r ≡ true → nat_abs r.temp ≤ 9999
unfolding in_range03
small03 r fits = leb-true (nat_abs r.temp) 9999 (search tests)

back03 : (r : Sentence03) → in_range03 r ≡ true → sentence03 (texts03 r) ≡ r
unfolding from03 sentence03 numbers03 decimals
back03 r fits = ap₂ from03 (written03 r fits).read (temperature_read r.temp (small03 r fits))

abbrev pub form03 : List (List ℕ) → Bool
form03 ts = full_width widths03 ts && temperature_form (get_or ts 8 [])

nine_again : (ts : List (List ℕ)) → is03 (places [] 9 0 ts) ≡ true → form03 (places [] 9 0 ts) ≡ true
    → texts03 (sentence03 (places [] 9 0 ts)) ≡ places [] 9 0 ts
unfolding is03 sentence03 numbers03 full_width
nine_again ts good form =
    let us = places [] 9 0 ts in
    let f = both (full_width widths03 us) (temperature_form (get_or us 8 [])) form in
    let decimals_again = fields_again widths03 (take 8 us) (search tests) f.0 in
    let last_again = temperature_again (get_or us 8 []) (search tests) f.1 in
    ap₂ (λ (vs : List (List ℕ)) (v : List ℕ). vs ++ v ∷ []) decimals_again last_again

again03 : (ts : List (List ℕ)) → is03 ts ≡ true → form03 ts ≡ true → texts03 (sentence03 ts) ≡ ts
unfolding is03
again03 ts good form =
    let nine : length ts ≡ 9 = eqb-true (length ts) 9 (search tests) in
    subst (λ us. is03 us ≡ true → form03 us ≡ true → texts03 (sentence03 us) ≡ us) (one_by_one [] 9 ts nine) (nine_again ts) good form

good03 : (r : Sentence03) → in_range03 r ≡ true → is03 (texts03 r) ≡ true
unfolding is03 decimals numbers03
good03 r fits =
    let last = temperature_good r.temp (small03 r fits) in
    simp and-eq-true_iff ((((written03 r fits).good, refl), last), ap in_range03 (back03 r fits) ∙ fits)

clean03 : (r : Sentence03) → in_range03 r ≡ true → every (every is_text_byte) (texts03 r) ≡ true
unfolding every
clean03 r fits =
    let t = temperature_text r.temp in
    let last = every_cons (every is_text_byte) t [] (temperature-text r.temp (small03 r fits)) refl in
    every_append (every is_text_byte) (decimals widths03 (numbers03 r)) (t ∷ []) (written03 r fits).texts last

full03 : (r : Sentence03) → in_range03 r ≡ true → form03 (texts03 r) ≡ true
unfolding full_width decimals numbers03
full03 r fits =
    both_pass (full_width widths03 (texts03 r)) (temperature_form (temperature_text r.temp))
    (written03 r fits).full (temperature-form r.temp (small03 r fits))

pub kind03 : SentenceKind is03 sentence03 texts03 in_range03 form03
unfolding is03 decimals numbers03 commas with_zeros temperature_text
kind03 = record {
  good = good03;
  back = back03;
  clean = clean03;
  short = λ r fits. lit≤ tt;
  full = full03;
  range = λ ts good. search tests;
  again = again03;
}

-- Sentence 05: seven numbers of a byte, the first four of two nibbles each.
joined05 : Sentence05 → List ℕ
joined05 r =
    (r.band * 16 + r.segment)
    ∷ (r.memory * 16 + r.antenna)
    ∷ (r.meter * 16 + r.control)
    ∷ (r.options * 16 + r.state)
    ∷ r.wtime
    ∷ r.tcmd
    ∷ r.lcmd
    ∷ []

from05 : List ℕ → Sentence05
from05 ns = record {
  band = get_or ns 0 0 / 16;
  segment = get_or ns 0 0 % 16;
  memory = get_or ns 1 0 / 16;
  antenna = get_or ns 1 0 % 16;
  meter = get_or ns 2 0 / 16;
  control = get_or ns 2 0 % 16;
  options = get_or ns 3 0 / 16;
  state = get_or ns 3 0 % 16;
  wtime = get_or ns 4 0;
  tcmd = get_or ns 5 0;
  lcmd = get_or ns 6 0;
}

-- two nibbles in a byte
byte : (u l : ℕ) → leb u 15 ≡ true → leb l 15 ≡ true → is_byte (u * 16 + l) ≡ true
byte u l hu hl = le-leb (u * 16 + l) 255 (omega (arith, leb-true u 15 hu, leb-true l 15 hl))

upper : (u l : ℕ) → leb l 15 ≡ true → (u * 16 + l) / 16 ≡ u
upper u l hl = omega (arith, leb-true l 15 hl)

lower : (u l : ℕ) → leb l 15 ≡ true → (u * 16 + l) % 16 ≡ l
lower u l hl = omega (arith, leb-true l 15 hl)

upper_small : (n : ℕ) → is_byte n ≡ true → leb (n / 16) 15 ≡ true
upper_small n h = le-leb (n / 16) 15 (omega (arith, leb-true n 255 h))

lower_small : (n : ℕ) → leb (n % 16) 15 ≡ true
lower_small n = le-leb (n % 16) 15 (omega arith)

both_nibbles : (n : ℕ) → n / 16 * 16 + n % 16 ≡ n
both_nibbles n = omega arith

bytes_in : (r : Sentence05) → in_range05 r ≡ true → every is_byte (joined05 r) ≡ true
unfolding in_range05 every joined05
bytes_in r fits =
    let h = simp and-eq-true_iff at fits in
    simp and-eq-true_iff (search byte)

joined_back : (r : Sentence05) → in_range05 r ≡ true → from05 (joined05 r) ≡ r
unfolding in_range05 joined05 from05
joined_back r fits =
    let h = simp and-eq-true_iff at fits in
    λ i. record {
      band = upper r.band r.segment (search) i;
      segment = lower r.band r.segment (search) i;
      memory = upper r.memory r.antenna (search) i;
      antenna = lower r.memory r.antenna (search) i;
      meter = upper r.meter r.control (search) i;
      control = lower r.meter r.control (search) i;
      options = upper r.options r.state (search) i;
      state = lower r.options r.state (search) i;
      wtime = r.wtime;
      tcmd = r.tcmd;
      lcmd = r.lcmd;
    }

back05 : (r : Sentence05) → in_range05 r ≡ true → sentence05 (texts05 r) ≡ r
unfolding texts05 sentence05 joined05 from05
back05 r fits = ap from05 (hexes_read (joined05 r) (bytes_in r fits)) ∙ joined_back r fits

again05 : (ts : List (List ℕ)) → is05 ts ≡ true → texts05 (sentence05 ts) ≡ ts
unfolding is05 sentence05 texts05
again05 ts good =
    let h = both (eqb (length ts) 7) (every is_hex_field ts) good in
    let seven = one_by_one [] 7 ts (eqb-true (length ts) 7 h.0) in
    rw (both_nibbles (hex_at ts 0), both_nibbles (hex_at ts 1), both_nibbles (hex_at ts 2), both_nibbles (hex_at ts 3))
    (ap (λ us. map hex_digits (map hex_of us)) seven ∙ hexes_again ts h.1)

range05 : (ts : List (List ℕ)) → is05 ts ≡ true → in_range05 (sentence05 ts) ≡ true
unfolding is05 sentence05 in_range05 every
range05 ts good =
    let h = both (eqb (length ts) 7) (every is_hex_field ts) good in
    let seven = one_by_one [] 7 ts (eqb-true (length ts) 7 h.0) in
    let bytes = simp and-eq-true_iff at (subst⁻¹ (λ us. every is_byte (map hex_of us) ≡ true) seven (hexes_bytes ts h.1)) in
    let nibbles0 = upper_small (hex_at ts 0) (search) in
    let nibbles1 = upper_small (hex_at ts 1) (search) in
    let nibbles2 = upper_small (hex_at ts 2) (search) in
    let nibbles3 = upper_small (hex_at ts 3) (search) in
    let wtime : is_byte (hex_at ts 4) ≡ true = search in
    let tcmd : is_byte (hex_at ts 5) ≡ true = search in
    let lcmd : is_byte (hex_at ts 6) ≡ true = search in
    simp (lower_small, nibbles0, nibbles1, nibbles2, nibbles3, wtime, tcmd, lcmd)

good05 : (r : Sentence05) → in_range05 r ≡ true → every is_hex_field (texts05 r) ≡ true
unfolding texts05 joined05
good05 r fits = hexes_good (joined05 r) (bytes_in r fits)

pub kind05 : SentenceKind is05 sentence05 texts05 in_range05 (λ ts. true)
unfolding is05 texts05 commas
kind05 = record {
  good = good05;
  back = back05;
  clean = λ r fits. hexes_text (texts05 r) (good05 r fits);
  short = λ r fits. lit≤ tt;
  full = λ r fits. refl;
  range = range05;
  again = λ ts good form. again05 ts good;
}
