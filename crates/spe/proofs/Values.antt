-- The values of a report's data by the places of its fields: what is weighed there is what the rules read from the field's
-- text.
-- Assumes nothing.
use Prim.Native.Nat.{ℕ, suc, ◌+◌, ◌-◌, ◌%◌, ◌≤◌}
use mathlib.Core.Path.{◌≡◌, refl, sym, ap, ap₂, ◌∙◌}
use mathlib.Core.Bool.{true}
use mathlib.Core.List.{List, ◌++◌}
use native.Mathlib.Omega.{arith}
use lib.ListN.{length, take, drop, get_or}
use Rattle.rules.specs.Bytes.{first, part}
use Rattle.rules.specs.Numbers.{is_digit, padded, padded_number, pointed, pointed_number}
use Rattle.rules.specs.Status.{data_of, is_status, readable, status_of}
use Rattle.rules.specs.declared.Status.{Status}
use Rattle.frame_laws.proofs.Bytes.{tests}
use Rattle.frame_laws.proofs.Lists.{elements, part_elements}
use Rattle.spe.proofs.ReportFrames.{framed_data}
use Rattle.spe.specs.Report.{weighed}
use Rattle.spe.proofs.Weighed.{digit_weighed, digits_weighed, padded_weighed, pointed_weighed}

module _ (d : List ℕ) (h : length d ≡ 67) where
  -- the text at a place is the bytes there
  pub text : (a n : ℕ) → a + n ≤ 67 → elements a n d ≡ part a n d
  text a n k = sym (part_elements a n d (omega arith))

  pub letter : (a : ℕ) → a + 1 ≤ 67 → get_or d a 0 ≡ first (part a 1 d)
  letter a k = ap first (text a 1 k)

  pub digit : (a n : ℕ) → a + suc n ≤ 67 → is_digit (first (part a (suc n) d)) ≡ true → get_or d a 0 % 16 ≡ first (part a (suc n) d) - 48
  digit a n k e = ap (λ (b : ℕ). b % 16) (ap first (text a (suc n) k)) ∙ digit_weighed (first (part a (suc n) d)) e

  -- two parts of the data, where the rules read one text
  module _ (a m b n : ℕ) (p : a + m ≤ 67) (q : b + n ≤ 67) {t : List ℕ} (e : elements a m d ++ elements b n d ≡ t) where
    both_parts : part a m d ++ part b n d ≡ t
    both_parts = sym (ap₂ ◌++◌ (text a m p) (text b n q)) ∙ e

  padded_parts : (a m b n k : ℕ) → a + m ≤ 67 → b + n ≤ 67 → a + k ≤ 67 → elements a m d ++ elements b n d ≡ elements a k d
      → padded (part a k d) ≡ true → weighed 0 (part a m d ++ part b n d) ≡ padded_number (part a k d)
  padded_parts a m b n k p q r e good = ap (weighed 0) (both_parts a m b n p q e ∙ text a k r) ∙ padded_weighed (part a k d) good

  pointed_parts : (a b n k : ℕ) → a + 2 ≤ 67 → b + n ≤ 67 → a + k ≤ 67 → elements a 2 d ++ elements b n d ≡ take 2 (elements a k d) ++ drop 3 (elements a k d)
      → pointed 2 (part a k d) ≡ true → weighed 0 (part a 2 d ++ part b n d) ≡ pointed_number 2 (part a k d)
  pointed_parts a b n k p q r e good =
      ap (weighed 0) (both_parts a 2 b n p q e ∙ ap (λ (t : List ℕ). take 2 t ++ drop 3 t) (text a k r)) ∙ pointed_weighed 2 (part a k d) good

-- All values of data that can be read: those weighed, and those that stand at a place.
module _ (comma : ℕ) (d : List ℕ) (h : length d ≡ 67) (good : readable d ≡ true) where
  abbrev values_at : (id band watts swratu swrant volts amperes upper lower combiner : ℕ) → Status
  values_at id band watts swratu swrant volts amperes upper lower combiner = record {
    id = id;
    state = get_or d 5 0;
    direction = get_or d 7 0;
    bank = get_or d 9 0;
    input = get_or d 11 0 % 16;
    band = band;
    transmit = get_or d 16 0 % 16;
    tuner = get_or d 17 0;
    receive = get_or d 19 0 % 16;
    level = get_or d 22 0;
    watts = watts;
    swratu = swratu;
    swrant = swrant;
    volts = volts;
    amperes = amperes;
    upper = upper;
    lower = lower;
    combiner = combiner;
    warning = get_or d 63 0;
    alarm = get_or d 65 0;
    comma = comma;
  }

  pub status_at : {id band watts swratu swrant volts amperes upper lower combiner : ℕ}
      → id ≡ weighed 0 (part 1 2 d) → band ≡ weighed 0 (part 13 2 d)
      → watts ≡ weighed 0 (part 24 2 d ++ part 26 2 d) → swratu ≡ weighed 0 (part 29 2 d ++ part 32 2 d)
      → swrant ≡ weighed 0 (part 35 2 d ++ part 38 2 d) → volts ≡ weighed 0 (part 41 2 d ++ part 44 1 d)
      → amperes ≡ weighed 0 (part 46 2 d ++ part 49 1 d) → upper ≡ weighed 0 (part 51 2 d ++ part 53 1 d)
      → lower ≡ weighed 0 (part 55 2 d ++ part 57 1 d) → combiner ≡ weighed 0 (part 59 2 d ++ part 61 1 d)
      → values_at id band watts swratu swrant volts amperes upper lower combiner ≡ status_of comma d
  unfolding readable status_of
  status_at e1 e6 e10 e11 e12 e13 e14 e15 e16 e17 = λ i. record {
    id = (e1 ∙ ap (λ (t : List ℕ). weighed 0 t) (sym (text d h 1 2 (omega arith)) ∙ ap (take 2) (text d h 1 3 (omega arith))) ∙ digits_weighed 0 (take 2 (part 1 3 d)) (search tests depth 25)) i;
    state = letter d h 5 (omega arith) i;
    direction = letter d h 7 (omega arith) i;
    bank = letter d h 9 (omega arith) i;
    input = digit d h 11 0 (omega arith) (search tests depth 25) i;
    band = (e6 ∙ digits_weighed 0 (part 13 2 d) (search tests depth 25)) i;
    transmit = digit d h 16 1 (omega arith) (search tests depth 25) i;
    tuner = ap (λ (t : List ℕ). get_or t 1 0) (text d h 16 2 (omega arith)) i;
    receive = digit d h 19 1 (omega arith) (search tests depth 25) i;
    level = letter d h 22 (omega arith) i;
    watts = (e10 ∙ padded_parts d h 24 2 26 2 4 (omega arith) (omega arith) (omega arith) refl (search tests depth 25)) i;
    swratu = (e11 ∙ pointed_parts d h 29 32 2 5 (omega arith) (omega arith) (omega arith) refl (search tests depth 25)) i;
    swrant = (e12 ∙ pointed_parts d h 35 38 2 5 (omega arith) (omega arith) (omega arith) refl (search tests depth 25)) i;
    volts = (e13 ∙ pointed_parts d h 41 44 1 4 (omega arith) (omega arith) (omega arith) refl (search tests depth 25)) i;
    amperes = (e14 ∙ pointed_parts d h 46 49 1 4 (omega arith) (omega arith) (omega arith) refl (search tests depth 25)) i;
    upper = (e15 ∙ padded_parts d h 51 2 53 1 3 (omega arith) (omega arith) (omega arith) refl (search tests depth 25)) i;
    lower = (e16 ∙ padded_parts d h 55 2 57 1 3 (omega arith) (omega arith) (omega arith) refl (search tests depth 25)) i;
    combiner = (e17 ∙ padded_parts d h 59 2 61 1 3 (omega arith) (omega arith) (omega arith) refl (search tests depth 25)) i;
    warning = letter d h 63 (omega arith) i;
    alarm = letter d h 65 (omega arith) i;
    comma = comma;
  }

-- the data of a good report can be read
pub status_told : (s : List ℕ) → is_status s ≡ true → (length (data_of s) ≡ 67) × (readable (data_of s) ≡ true)
unfolding is_status
status_told s e = (framed_data s (search tests), search tests)
