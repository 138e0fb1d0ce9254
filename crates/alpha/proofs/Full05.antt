-- Sentence 05 at full width: two hexadecimal digits between its commas. Assumes nothing.
use Prim.Native.Nat.{ℕ, ◌+◌, ◌≤◌}
use mathlib.Core.Path.{◌≡◌, refl, sym, ◌∙◌, ap}
use mathlib.Core.Bool.{Bool, true, ◌&&◌, or-true}
use mathlib.Core.List.{List, [], ◌∷◌, ◌++◌, map, append-nil}
use mathlib.Core.Logic.{⊎_elim}
use native.Mathlib.Omega.{arith}
use lib.Dec.{eqb, leb, lit<}
use lib.ListN.{length, drop, replicate, drop_of_length-le}
use borrow.Author.Tests.{le-leb}
use Rattle.rules.specs.Bytes.{ascii, part, between, every, total}
use Rattle.rules.specs.Numbers.{with_zeros, is_hex_digit}
use Rattle.rules.specs.Status.{cut}
use Rattle.rules.specs.Sentences.{is_hex_field, is05}
use Rattle.frame_laws.proofs.Bytes.{both_pass, either, between_bounds, every_cons, every_split, every_take, every_drop}
use Rattle.frame_laws.proofs.Fields.{cut_widths}
use Rattle.frame_laws.proofs.Sentences.{payload}
use Rattle.frame_laws.proofs.SentenceFields.{hexes_text}
use Rattle.alpha.specs.Fields.{Text}
use Rattle.texts.specs.Parts.{in_bounds}
use Rattle.alpha.specs.Payloads.{is_good_payload, outside_gap}
use Rattle.alpha.proofs.Payloads.{by05}
use Rattle.alpha.proofs.Bounds.{row_of, Formed, formed}
use Rattle.alpha.proofs.FullWidth.{known}

-- A byte between the bounds and outside the gap is a hexadecimal digit.
hex_byte : (b : ℕ) → between 48 70 b ≡ true → outside_gap b ≡ true → is_hex_digit b ≡ true
unfolding is_hex_digit
hex_byte b e f =
    let x = between_bounds 48 70 b e in
    ⊎_elim
    (λ (low : leb b 57 ≡ true). rw (le-leb 48 b x.0, low))
    (λ (high : leb 65 b ≡ true). simp (high, le-leb b 70 x.1, or-true))
    (either (leb b 57) (leb 65 b) f)

-- what follows from two tests, for each
every_both : {A : Type 0} (f g h : A → Bool) → ((x : A) → f x ≡ true → g x ≡ true → h x ≡ true)
    → (xs : List A) → every f xs ≡ true → every g xs ≡ true → every h xs ≡ true
unfolding every
every_both f g h follows [] p q = refl
every_both f g h follows (x ∷ xs) p q =
    let a = every_split f x xs p in
    let b = every_split g x xs q in
    every_cons h x xs (follows x a.0 b.0) (every_both f g h follows xs a.1 b.1)

every_map : {A B : Type 0} (f : A → B) (test : B → Bool) (xs : List A) → every test (map f xs) ≡ every (λ x. test (f x)) xs
unfolding every
every_map f test [] = refl
every_map f test (x ∷ xs) = ap (λ (b : Bool). test (f x) && b) (every_map f test xs)

-- what each byte passes, each byte of each text passes
every_cut : (test : ℕ → Bool) (a : ℕ) (ws p : List ℕ) → every test p ≡ true → every (every test) (cut a ws p) ≡ true
unfolding every
every_cut test a [] p e = refl
every_cut test a (w ∷ ws) p e =
    both_pass (every test (part (a + 1) w p)) _ (every_take test w (drop (a + 1) p) (every_drop test (a + 1) p e)) (every_cut test (a + 1 + w) ws p e)

abbrev widths05 : List ℕ
widths05 = replicate 7 2

module _ (p : List ℕ) (size : length p ≡ 26)
    (form : in_bounds (ascii "APA05" ++ (row_of 48 widths05 ++ [])) (ascii "APA05" ++ (row_of 70 widths05 ++ [])) p ≡ true)
    (no_gap : every outside_gap p ≡ true) where
  abbrev ts05 : List Text
  ts05 = cut 5 widths05 p

  form05 : Formed 48 70 (ascii "APA05") widths05 [] [] p
  unfolding total
  form05 = formed 48 70 (ascii "APA05") widths05 [] [] p (omega arith) form

  written05 : p ≡ payload 5 ts05
  unfolding with_zeros
  written05 = let done : length p ≤ 26 = omega arith in form05.whole ∙ rw (drop_of_length-le p done, append-nil)

  hexes05 : every (every is_hex_digit) ts05 ≡ true
  hexes05 =
      every_both (every (between 48 70)) (every outside_gap) (every is_hex_digit) (every_both (between 48 70) outside_gap is_hex_digit hex_byte)
      ts05 form05.texts (every_cut outside_gap 5 widths05 p no_gap)

  fields05 : every is_hex_field ts05 ≡ true
  unfolding total every
  fields05 =
      let two = ap (every (λ (n : ℕ). eqb n 2)) (cut_widths 5 widths05 p (omega arith)) in
      every_both (λ (t : Text). eqb (length t) 2) (every is_hex_digit) is_hex_field (λ t. both_pass (eqb (length t) 2) (every is_hex_digit t))
      ts05 (sym (every_map length (λ (n : ℕ). eqb n 2) ts05) ∙ two) hexes05

  pub full05 : is_good_payload p ≡ true
  unfolding is05
  full05 =
      let clean = hexes_text ts05 fields05 in
      known 5 ts05 (lit< tt) clean written05 ∙ rw (by05 5 ts05 refl, fields05)
