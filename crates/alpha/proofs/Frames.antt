-- The frame around a payload: it is a sentence where its length, its `$` and its `*` are right and the payload passes
-- its tests. Assumes nothing.
use Prim.Native.Nat.{ℕ, suc, ◌+◌, ◌-◌, ◌≤◌, ◌<◌}
use Rattle.rules.specs.declared.Refusal.TheVariants.{NotGood}
use Rattle.std.specs.Prelude.{Err, Ok}
use Rattle.std.specs.Result.{is_ok}
use mathlib.Core.Path.{◌≡◌, refl, sym, ◌∙◌, ap, ap₂}
use mathlib.Core.Bool.{Bool, true, false, ◌&&◌, and-false}
use mathlib.Core.List.{List, ◌∷◌, ◌++◌}
use mathlib.Core.Logic.{⊎_elim}
use native.Mathlib.Omega.{arith}
use lib.ListN.{length, drop, get_or, length-drop, take-append-drop}
use lib.Seq.{length-take-le, take_all, drop-drop, get_or_at}
use borrow.Author.Tests.{lt-leb}
use Rattle.rules.specs.Bytes.{part, between, same, every}
use Rattle.rules.specs.Numbers.{is_digit}
use Rattle.rules.specs.Sentences.{is_payload, is_payload_byte, is_named, is_sentence, payload_of, check_of, gives_sums, number_of, texts_of}
use Rattle.rules.specs.Answers.{Read, is_good, read_texts, read_family2}
use Rattle.frame_laws.proofs.Bytes.{both, tests, answer, same_eq, eq_same, between_bounds, bounds_between}
use Rattle.frame_laws.proofs.Sentences.{sentence_payload}
use Rattle.texts.proofs.Steps.{at as from_place}
use Rattle.alpha.specs.Payloads.{is_checked}

pub no_sentence : (bs : List ℕ) → is_sentence bs ≡ false → Err NotGood ≡ read_family2 bs
unfolding read_family2
no_sentence bs e = rw e

-- an answer is good where it is no refusal
pub ok_good : (r : Read) → is_ok r ≡ is_good r
ok_good (Ok f) = refl
ok_good (Err e) = refl

-- the bytes are tested last
reordered : (e n g : Bool) → e && n && g ≡ n && (e && g)
reordered true n g = refl
reordered false n g = sym (and-false n)

module _ (bs : List ℕ) where
  payload_length : length (payload_of bs) ≡ length bs - 6
  payload_length = length-take-le (length bs - 6) (drop 1 bs) (omega (arith, length-drop 1 bs))

  wrong_length : between 5 128 (length (payload_of bs)) ≡ false → is_sentence bs ≡ false
  unfolding is_sentence is_payload
  wrong_length e = simp (e, and-false)

  pub too_short : length bs < 11 → is_sentence bs ≡ false
  too_short h = wrong_length (rw (lt-leb 5 (length (payload_of bs)) (omega (arith, payload_length))))

  pub too_long : 134 < length bs → is_sentence bs ≡ false
  too_long h = wrong_length (simp (lt-leb (length (payload_of bs)) 128 (omega (arith, payload_length)), and-false))

  module _ (low : 11 ≤ length bs) where
    from_star : drop (length bs - 6) (drop 1 bs) ≡ get_or bs (length bs - 5) 0 ∷ check_of bs
    from_star =
        let e : 1 + (length bs - 6) ≡ length bs - 5 = omega arith in
        let f : length bs - 5 + 1 ≡ length bs - 4 = omega arith in
        drop-drop (length bs - 6) 1 bs ∙ rw e (from_place bs (length bs - 5) (omega arith) ∙ rw f)

    framed : get_or bs 0 0 ≡ 36 → get_or bs (length bs - 5) 0 ≡ 42 → bs ≡ 36 ∷ payload_of bs ++ 42 ∷ check_of bs
    framed d s =
        from_place bs 0 (omega arith)
        ∙ ap₂ (λ (b : ℕ) (l : List ℕ). b ∷ l) d
        (sym (take-append-drop (length bs - 6) (drop 1 bs)) ∙ ap (λ (l : List ℕ). payload_of bs ++ l) (from_star ∙ ap (λ (b : ℕ). b ∷ check_of bs) s))

    marks : is_sentence bs ≡ true → (get_or bs 0 0 ≡ 36) × (get_or bs (length bs - 5) 0 ≡ 42)
    unfolding is_sentence
    marks e =
        let f = both (same bs (36 ∷ payload_of bs ++ 42 ∷ check_of bs) && is_payload (payload_of bs)) (gives_sums (check_of bs) (payload_of bs)) e in
        let q = same_eq bs (36 ∷ payload_of bs ++ 42 ∷ check_of bs) (both _ (is_payload (payload_of bs)) f.0).0 in
        let k : length bs - 5 ≡ suc (length bs - 6) = omega arith in (
          ap (λ (l : List ℕ). get_or l 0 0) q,
          ap (λ (l : List ℕ). get_or l (length bs - 5) 0) q ∙ rw k (get_or_at (payload_of bs) 42 (check_of bs) 0 (length bs - 6) payload_length),
        )

    pub no_dollar : (get_or bs 0 0 ≡ 36 → ⊥) → is_sentence bs ≡ false
    no_dollar h = ⊎_elim (λ e. absurd (h (marks e).0)) (λ e. e) (answer (is_sentence bs))

    pub no_star : (get_or bs (length bs - 5) 0 ≡ 42 → ⊥) → is_sentence bs ≡ false
    no_star h = ⊎_elim (λ e. absurd (h (marks e).1)) (λ e. e) (answer (is_sentence bs))

    -- the parts as they are cut
    pub the_payload : part 1 (length bs - 5 - 1) bs ≡ payload_of bs
    the_payload = let e : length bs - 5 - 1 ≡ length bs - 6 = omega arith in rw e

    the_check : part (length bs - 4) (length bs - (length bs - 4)) bs ≡ check_of bs
    the_check = take_all (length bs - (length bs - 4)) (check_of bs) (omega (arith, length-drop (length bs - 4) bs))

    pub by_tests : length bs ≤ 134 → get_or bs 0 0 ≡ 36 → get_or bs (length bs - 5) 0 ≡ 42
        → is_sentence bs ≡ is_named (part 1 (length bs - 5 - 1) bs) && is_checked (part (length bs - 4) (length bs - (length bs - 4)) bs) (part 1 (length bs - 5 - 1) bs)
    unfolding is_sentence is_payload
    by_tests high d s =
        let p = payload_of bs in
        rw (the_payload, the_check, eq_same bs _ (framed d s), bounds_between 5 128 (length (payload_of bs)) (omega (arith, payload_length)) (omega (arith, payload_length)))
        (reordered (every is_payload_byte p) (is_named p) (gives_sums (check_of bs) p))

  -- a sentence has a payload, and that a number
  module _ (good : is_sentence bs ≡ true) where
    long_enough : 11 ≤ length bs
    unfolding is_payload
    long_enough =
        let inside = sentence_payload bs good in
        let long : between 5 128 (length (payload_of bs)) ≡ true = search tests in
        let bounds = between_bounds 5 128 (length (payload_of bs)) long in
        omega (arith, payload_length)

    pub numbered : (5 ≤ length (payload_of bs)) × (every is_digit (part 3 2 (payload_of bs)) ≡ true)
    unfolding is_payload
    numbered =
        let inside = sentence_payload bs good in
        (omega (arith, payload_length, long_enough), search tests)

    pub a_sentence : read_texts (number_of (payload_of bs)) (texts_of (payload_of bs)) ≡ read_family2 bs
    unfolding read_family2
    a_sentence = rw good
