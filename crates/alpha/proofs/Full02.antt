-- Sentence 02 at full width: digits between its commas, and what its rules ask of three fields besides.
-- Assumes nothing.
use Prim.Native.Nat.{ℕ, ◌+◌, ◌*◌, ◌≤◌}
use mathlib.Core.Path.{◌≡◌, refl, sym, ◌∙◌}
use mathlib.Core.Bool.{Bool, true, ◌&&◌, not}
use mathlib.Core.List.{List, [], ◌∷◌, ◌++◌, append-nil}
use native.Mathlib.Omega.{arith}
use lib.Dec.{eqb, leb, lit<}
use lib.ListN.{length, get_or, drop_of_length-le}
use borrow.Author.Tests.{le-leb, leb-true, eqb-false, not-true}
use Rattle.rules.specs.Bytes.{ascii, part, every, total}
use Rattle.rules.specs.Numbers.{is_digit, decimal_from, decimal, with_zeros}
use Rattle.rules.specs.Status.{cut}
use Rattle.rules.specs.Sentences.{are_decimals, widths02, numbers02, in_range02, is02, sentence02}
use Rattle.frame_laws.proofs.Bytes.{both, tests, both_pass, between_bounds, bounds_between, every_weaker}
use Rattle.frame_laws.proofs.Lists.{part_elements}
use Rattle.frame_laws.proofs.Sentences.{is_text_byte, digits_text, payload}
use Rattle.frame_laws.proofs.SentenceFields.{fields_fit}
use Rattle.alpha.specs.Fields.{Text}
use Rattle.texts.specs.Parts.{in_bounds}
use Rattle.alpha.specs.Payloads.{is_good_payload}
use Rattle.alpha.proofs.Payloads.{by02}
use Rattle.alpha.proofs.Bounds.{each, row_of, Formed, formed}
use Rattle.alpha.proofs.FullWidth.{full_fields, known, digit}

-- three digits weighed as their bytes: 5583 is 255 and 111 times the byte of the digit 0
weighed : (a b c : ℕ) → every is_digit (a ∷ b ∷ c ∷ []) ≡ true → a * 100 + b * 10 + c ≤ 5583 → decimal (a ∷ b ∷ c ∷ []) ≤ 255
unfolding every decimal_from
weighed a b c digits h =
    let x = between_bounds 48 57 a (search tests) in
    let y = between_bounds 48 57 b (search tests) in
    let z = between_bounds 48 57 c (search tests) in
    omega arith

module _ (p : List ℕ) (size : length p ≡ 57)
    (form : in_bounds (ascii "APA02" ++ (row_of 48 widths02 ++ [])) (ascii "APA02" ++ (row_of 57 widths02 ++ [])) p ≡ true) where
  abbrev ts02 : List Text
  ts02 = cut 5 widths02 p

  form02 : Formed 48 57 (ascii "APA02") widths02 [] [] p
  unfolding total
  form02 = formed 48 57 (ascii "APA02") widths02 [] [] p (omega arith) form

  written02 : p ≡ payload 2 ts02
  unfolding with_zeros
  written02 = let done : length p ≤ 57 = omega arith in form02.whole ∙ rw (drop_of_length-le p done, append-nil)

  fields02 : are_decimals widths02 ts02 ≡ true
  unfolding total every
  fields02 = full_fields 5 widths02 p (omega arith) refl form02.texts

  module _ (grid : get_or p 35 0 * 100 + get_or p 36 0 * 10 + get_or p 37 0 ≤ 5583) (band : get_or p 43 0 ≡ 48 → ⊥) (key : get_or p 50 0 ≤ 49) where
    in-range02 : in_range02 (sentence02 ts02) ≡ true
    unfolding in_range02 sentence02 numbers02
    in-range02 =
        let digits = each (every is_digit) [] ts02 in
        let texts = form02.texts in
        let vg = part_elements 35 3 p (omega arith) in
        let low : decimal (part 35 3 p) ≤ 255 = rw vg (weighed _ _ _ (rw vg at (digits 6 texts (lit< tt))) grid) in
        let b = digit p 43 (omega arith) (digits 8 texts (lit< tt)) in
        let k = digit p 50 (omega arith) (digits 11 texts (lit< tt)) in
        let band_in = bounds_between 1 9 (decimal (part 43 1 p)) (omega arith) (omega arith) in
        let key_in : decimal (part 50 1 p) ≤ 1 = omega arith in
        both_pass _ _ (both_pass _ _ (both_pass _ _ (fields_fit widths02 ts02 fields02) (le-leb _ _ low)) band_in) (le-leb _ _ key_in)

    good02 : is_good_payload p ≡ true
    unfolding is02
    good02 =
        let clean = every_weaker (every is_digit) (every is_text_byte) digits_text ts02 form02.texts in
        known 2 ts02 (lit< tt) clean written02 ∙ rw (by02 2 ts02 refl, fields02, in-range02)

-- The same by the tests, as they are made.
pub full02 : (p : List ℕ) (good : Bool) (weight : ℕ) → length p ≡ 57
    → good ≡ in_bounds (ascii "APA02" ++ (row_of 48 widths02 ++ [])) (ascii "APA02" ++ (row_of 57 widths02 ++ [])) p
    → weight ≡ get_or p 35 0 * 100 + get_or p 36 0 * 10 + get_or p 37 0
    → good && leb weight 5583 && not (eqb (get_or p 43 0) 48) && leb (get_or p 50 0) 49 ≡ true → is_good_payload p ≡ true
full02 p good weight size g w e =
    let f = both (good && leb weight 5583 && not (eqb (get_or p 43 0) 48)) (leb (get_or p 50 0) 49) e in
    let h = both (good && leb weight 5583) (not (eqb (get_or p 43 0) 48)) f.0 in
    let k = both good (leb weight 5583) h.0 in
    good02 p size (sym g ∙ k.0) (omega (arith, leb-true weight 5583 k.1))
    (eqb-false (get_or p 43 0) 48 (not-true _ h.1))
    (leb-true (get_or p 50 0) 49 f.1)
