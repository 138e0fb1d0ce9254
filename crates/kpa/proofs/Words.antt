-- Laws of a body's letters as they are read: its first n bytes, where n is how many letters it begins with.
-- Assumes nothing.
use Prim.Native.Nat.{ℕ, ◌+◌, ◌-◌, ◌≤◌, ◌<◌}
use Rattle.std.specs.Prelude.{Ok, Some, None}
use mathlib.Core.Path.{◌≡◌, refl, sym, ap, ◌∙◌}
use mathlib.Core.Bool.{Bool, true, false, cond, not}
use mathlib.Core.List.{List, [], ◌∷◌, map}
use mathlib.Core.Logic.{⊎_elim, inl, inr}
use native.Mathlib.Omega.{arith}
use lib.Dec.{leb, ltb}
use lib.ListN.{length, take, drop, length-map, length-drop}
use lib.Seq.{take_all, take-append_seam}
use borrow.Author.Tests.{leb-true, lt-ltb, le-ltb}
use Rattle.std.proofs.lemmas.Option.{cond_some}
use Rattle.std.specs.Option.{unwrap_or}
use Rattle.std.specs.List.{position, position_or_len}
use Rattle.std.proofs.lemmas.Bool.{cases_lt}
use Rattle.std.proofs.lemmas.List.Recursion.{is_position_or_len}
use Rattle.std.proofs.lemmas.List.{nil_from_length}
use Rattle.std.proofs.lemmas.Bool.Decides.{nat_tests}
use Rattle.rules.specs.Bytes.{first}
use Rattle.rules.specs.Messages.{is_letter, capital, letter_run, letters_in, behind_letters, word_from, word, word_letters, without_zeros, as_letters, behind}
use Rattle.rules.specs.Answers.{read_behind, read_body}
use Rattle.rules.specs.declared.Behind.{Behind}
use Rattle.rules.specs.declared.Frame.TheVariants.{Message}
use Rattle.rules.specs.declared.Message.TheVariants.{OtherLetters}
use Rattle.kpa.specs.Words.{lead_of}
use Rattle.frame_laws.proofs.Bytes.{answer}
use Rattle.frame_laws.proofs.Letters.{run_front, run_length, in_capitals, letters_back}
use Rattle.frame_laws.proofs.Listed.{long_unlisted}

-- The run ends where the library finds the first byte that is no letter.
abbrev pub no_letter : ℕ → Bool
no_letter b = not (is_letter b)

run_place : (bs : List ℕ) → length (letter_run bs) ≡ position_or_len no_letter bs
unfolding letter_run
run_place = is_position_or_len (λ l. length (letter_run l)) no_letter refl step
  where
    step : (b : ℕ) (bs : List ℕ) → length (letter_run (b ∷ bs)) ≡ cond (no_letter b) 0 (1 + length (letter_run bs))
    step b bs = ⊎_elim (λ (e : is_letter b ≡ true). rw e (omega arith)) (λ (e : is_letter b ≡ false). rw e) (answer (is_letter b))

pub run_position : (bs : List ℕ) → unwrap_or (position no_letter bs) (length bs) ≡ length (letter_run bs)
run_position bs = rw (← run_place bs) (by_length (length (letter_run bs)) (length bs) (run_length bs))
  where
    by_length : (n l : ℕ) → n ≤ l → unwrap_or (cond (ltb n l) (Some n) None) l ≡ n
    by_length n l h = elim (cases_lt n l) [ inl k ↦ rw (lt-ltb n l k) | inr k ↦ rw (le-ltb n l k) (omega arith) ]

-- Whether there are any letters is told by the first byte.
pub some_letters : (body : List ℕ) → (length (letter_run body) ≡ 0 → ⊥) → is_letter (first body) ≡ true
unfolding letter_run
some_letters [] h = absurd (h refl)
some_letters (b ∷ bs) h =
    ⊎_elim (λ (e : is_letter b ≡ true). e) (λ (e : is_letter b ≡ false). absurd (h (rw e))) (answer (is_letter b))

pub no_letters : (body : List ℕ) → length (letter_run body) ≡ 0 → is_letter (first body) ≡ false
unfolding letter_run
no_letters [] h = unfold is_letter in refl
no_letters (b ∷ bs) h =
    ⊎_elim (λ (e : is_letter b ≡ true). absurd (omega (arith, rw e at h))) (λ (e : is_letter b ≡ false). e) (answer (is_letter b))

module _ (body : List ℕ) {n : ℕ} (e : n ≡ length (letter_run body)) where
  -- the letters, and the bytes behind them
  pub run : take n body ≡ letter_run body
  run =
      ap (λ (k : ℕ). take k body) e
      ∙ ap (take (length (letter_run body))) (sym (run_front body))
      ∙ take-append_seam (letter_run body) (behind_letters body)

  pub run_size : n ≡ length (take n body)
  run_size = e ∙ ap length (sym run)

  pub run_within : n ≤ length body
  run_within = rw e (run_length body)

  rest : take (length body - n) (drop n body) ≡ behind_letters body
  rest = take_all (length body - n) (drop n body) (omega (arith, length-drop n body)) ∙ rw e

  -- A body says what its letters allow behind them.
  pub told : {w : ℕ} {k : Behind} → w ≡ word (letters_in body) → behind w ≡ k
      → read_behind w (as_letters (letters_in body)) k (take (length body - n) (drop n body)) ≡ read_body body
  unfolding read_body
  told p q = rw (rest, ← p, q)

-- What the first letters tell: their number, where that holds them all; more than it holds are none of the listed ones.
module _ (body : List ℕ) where
  module _ {w : ℕ} (e : Some w ≡ lead_of body) where
    found : (leb (length (letter_run body)) 4 ≡ true) × (word (letters_in body) ≡ w)
    unfolding lead_of
    found = cond_some (leb (length (letter_run body)) 4) (word (letters_in body)) w (sym e)

    pub lead_word : w ≡ word (letters_in body)
    lead_word = sym found.1

    -- they are found again in it, so it tells how many they are
    pub lead_count : {n : ℕ} → n ≡ length (word_letters w) → n ≡ length (letter_run body)
    lead_count count =
        let few : length (letters_in body) ≤ 4 = rw length-map (leb-true (length (letter_run body)) 4 found.0) in
        count ∙ rw (lead_word, letters_back (letters_in body) (in_capitals body) few) (length-map (letter_run body) capital)

    -- and is 0 where there are none
    pub lead_none : w ≡ 0 → length (letter_run body) ≡ 0
    unfolding word_letters without_zeros
    lead_none zero = sym (lead_count (rw zero))

    pub lead_any : (w ≡ 0 → ⊥) → length (letter_run body) ≡ 0 → ⊥
    unfolding word_from
    lead_any any none = any (lead_word ∙ ap (λ (l : List ℕ). word (map capital l)) (nil_from_length (letter_run body) none))

  pub lead_long : None ≡ lead_of body → 4 < length (letter_run body)
  unfolding lead_of
  lead_long e = grind (arith, nat_tests)

  pub long_other : 4 < length (letter_run body) → Ok (Message (OtherLetters (as_letters (letters_in body)))) ≡ read_body body
  unfolding read_body
  long_other h = rw (long_unlisted (letters_in body) (in_capitals body) (rw length-map (omega arith)))
