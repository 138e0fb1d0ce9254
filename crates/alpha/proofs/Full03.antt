-- Sentence 03 at full width: digits between its commas, then a temperature of six bytes. Assumes nothing.
use Prim.Native.Nat.{ℕ, ◌≤◌}
use mathlib.Core.Path.{◌≡◌, refl, sym, ◌∙◌, ap}
use mathlib.Core.Bool.{Bool, true, false, ◌&&◌, not, and-eq-true_iff}
use mathlib.Core.List.{List, [], ◌∷◌, ◌++◌, append_assoc}
use mathlib.Core.Logic.{⊎_elim}
use native.Mathlib.Omega.{arith}
use lib.Dec.{eqb, leb, lit<}
use lib.ListN.{length, drop, get_or}
use borrow.Author.Tests.{le-leb, leb-true, eq-eqb, eqb-false, not-true}
use Rattle.rules.specs.Bytes.{ascii, one_of, part, between, every, total}
use Rattle.rules.specs.Numbers.{is_digit, decimal, with_zeros}
use Rattle.rules.specs.Status.{cut}
use Rattle.rules.specs.Sentences.{is_payload_byte, commas, are_decimals, is_temperature, widths03, numbers03, in_range03, is03, sentence03}
use Rattle.frame_laws.proofs.Bytes.{both, tests, answer, both_pass, between_bounds, bounds_between, every_cons, every_append, every_weaker, one_of_these}
use Rattle.frame_laws.proofs.Lists.{elements, last}
use Rattle.frame_laws.proofs.Sentences.{is_text_byte, digits_text, payload}
use Rattle.frame_laws.proofs.SentenceFields.{fields_fit, temperature_bound}
use Rattle.alpha.specs.Fields.{Text}
use Rattle.texts.specs.Parts.{in_bounds}
use Rattle.alpha.specs.Payloads.{is_good_payload}
use Rattle.alpha.proofs.Payloads.{by03}
use Rattle.alpha.proofs.Bounds.{each, row_of, Formed, formed}
use Rattle.alpha.proofs.FullWidth.{full_fields, known, digit}

-- A temperature of six bytes.
abbrev six : ℕ → ℕ → ℕ → ℕ → ℕ → ℕ → List ℕ
six s a b c point d = s ∷ a ∷ b ∷ c ∷ point ∷ d ∷ []

module _ (s a b c point d : ℕ) (form : in_bounds (ascii "+000.0") (ascii "-999.9") (six s a b c point d) ≡ true) (no-comma : s ≡ 44 → ⊥) where
  sign_in : one_of (ascii "+-") s ≡ true
  unfolding in_bounds one_of
  sign_in =
      let x = between_bounds 43 45 s (search tests) in
      ⊎_elim
      (λ (e : eqb s 43 ≡ true). rw e)
      (λ (e : eqb s 43 ≡ false). let no_plus = eqb-false s 43 e in let minus : s ≡ 45 = omega arith in rw (e, eq-eqb s 45 minus))
      (answer (eqb s 43))

  three : every is_digit (a ∷ b ∷ c ∷ []) ≡ true
  unfolding in_bounds every
  three = simp and-eq-true_iff (search tests)

  last_digit : every is_digit (d ∷ []) ≡ true
  unfolding in_bounds every
  last_digit = every_cons is_digit d [] (search tests) refl

  the_point : point ≡ 46
  unfolding in_bounds
  the_point = let x = between_bounds 46 46 point (search tests) in omega arith

  six_good : (is_temperature (six s a b c point d) ≡ true) × (every is_text_byte (six s a b c point d) ≡ true)
  unfolding is_temperature every is_payload_byte
  six_good = (
    both_pass _ _ (both_pass _ _ (both_pass _ _ sign_in three) (eq-eqb point 46 the_point)) last_digit,
    every_cons is_text_byte s (a ∷ b ∷ c ∷ point ∷ d ∷ []) (one_of_these is_text_byte (ascii "+-") s refl sign_in)
        (every_append is_text_byte (a ∷ b ∷ c ∷ []) (point ∷ d ∷ []) (digits_text (a ∷ b ∷ c ∷ []) three)
        (every_cons is_text_byte point (d ∷ []) (rw the_point) (digits_text (d ∷ []) last_digit))),
  )

-- Texts behind commas, in two parts.
commas_append : (ts us : List Text) → commas (ts ++ us) ≡ commas ts ++ commas us
unfolding commas
commas_append [] us = refl
commas_append (t ∷ ts) us =
    ap (λ (l : List ℕ). 44 ∷ l) (ap (λ (l : List ℕ). t ++ l) (commas_append ts us) ∙ sym (append_assoc t (commas ts) (commas us)))

module _ (p : List ℕ) (size : length p ≡ 43)
    (form : in_bounds (ascii "APA03" ++ (row_of 48 widths03 ++ ascii ",+000.0")) (ascii "APA03" ++ (row_of 57 widths03 ++ ascii ",-999.9")) p ≡ true) where
  abbrev numbers : List Text
  numbers = cut 5 widths03 p

  abbrev heat : Text
  heat = elements 37 6 p

  abbrev ts03 : List Text
  ts03 = numbers ++ heat ∷ []

  form03 : Formed 48 57 (ascii "APA03") widths03 (ascii ",+000.0") (ascii ",-999.9") p
  unfolding total
  form03 = formed 48 57 (ascii "APA03") widths03 (ascii ",+000.0") (ascii ",-999.9") p (omega arith) form

  behind : drop 36 p ≡ get_or p 36 0 ∷ heat
  behind = last 7 36 p (omega arith)

  in_heat : (get_or p 36 0 ≡ 44) × (in_bounds (ascii "+000.0") (ascii "-999.9") heat ≡ true)
  unfolding in_bounds
  in_heat =
      let f = both (between 44 44 (get_or p 36 0)) (in_bounds (ascii "+000.0") (ascii "-999.9") heat) (rw behind at form03.rest) in
      let x = between_bounds 44 44 (get_or p 36 0) f.0 in
      (omega arith, f.1)

  written03 : p ≡ payload 3 ts03
  unfolding with_zeros commas
  written03 =
      let tail : drop 36 p ≡ commas (heat ∷ []) = behind ∙ rw in_heat.0 in
      form03.whole
      ∙ ap (λ (l : List ℕ). ascii "APA03" ++ l) (ap (λ (l : List ℕ). commas numbers ++ l) tail ∙ sym (commas_append numbers (heat ∷ [])))

  fields03 : are_decimals widths03 numbers ≡ true
  unfolding total every
  fields03 = full_fields 5 widths03 p (omega arith) refl form03.texts

  module _ (tap_from : get_or p 35 0 ≡ 48 → ⊥) (tap_to : get_or p 35 0 ≤ 53) (no-comma : get_or p 37 0 ≡ 44 → ⊥) where
    heat_good : (is_temperature heat ≡ true) × (every is_text_byte heat ≡ true)
    heat_good = six_good (get_or p 37 0) (get_or p 38 0) (get_or p 39 0) (get_or p 40 0) (get_or p 41 0) (get_or p 42 0) in_heat.1 no-comma

    in-range03 : in_range03 (sentence03 ts03) ≡ true
    unfolding in_range03 sentence03 numbers03
    in-range03 =
        let t = digit p 35 (omega arith) (each (every is_digit) [] numbers 7 form03.texts (lit< tt)) in
        let tap_in = bounds_between 1 5 (decimal (part 35 1 p)) (omega arith) (omega arith) in
        both_pass _ _ (both_pass _ _ (fields_fit widths03 numbers fields03) tap_in) (le-leb _ _ (temperature_bound heat heat_good.0))

    good03 : is_good_payload p ≡ true
    unfolding is03 every
    good03 =
        let digits = every_weaker (every is_digit) (every is_text_byte) digits_text numbers form03.texts in
        let clean = every_append (every is_text_byte) numbers (heat ∷ []) digits (every_cons (every is_text_byte) heat [] heat_good.1 refl) in
        known 3 ts03 (lit< tt) clean written03 ∙ rw (by03 3 ts03 refl, fields03, heat_good.0, in-range03)

-- The same by the tests, as they are made.
pub full03 : (p : List ℕ) (good : Bool) → length p ≡ 43
    → good ≡ in_bounds (ascii "APA03" ++ (row_of 48 widths03 ++ ascii ",+000.0")) (ascii "APA03" ++ (row_of 57 widths03 ++ ascii ",-999.9")) p
    → good && not (eqb (get_or p 35 0) 48) && leb (get_or p 35 0) 53 && not (eqb (get_or p 37 0) 44) ≡ true → is_good_payload p ≡ true
full03 p good size g e =
    let f = both (good && not (eqb (get_or p 35 0) 48) && leb (get_or p 35 0) 53) (not (eqb (get_or p 37 0) 44)) e in
    let h = both (good && not (eqb (get_or p 35 0) 48)) (leb (get_or p 35 0) 53) f.0 in
    let k = both good (not (eqb (get_or p 35 0) 48)) h.0 in
    good03 p size (sym g ∙ k.0)
    (eqb-false (get_or p 35 0) 48 (not-true _ k.1))
    (leb-true (get_or p 35 0) 53 h.1)
    (eqb-false (get_or p 37 0) 44 (not-true _ f.1))
