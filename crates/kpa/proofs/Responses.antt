-- What stands behind letters: a question where nothing does; and the digits of a number and of pairs, as they are read.
-- By the clauses of the definitions. Assumes nothing.
use Prim.Native.Nat.{ℕ, suc, ◌+◌, ◌*◌, ◌^◌, ◌≤◌, ◌<◌}
use Rattle.rules.specs.Answers.{Read}
use Rattle.rules.specs.declared.Refusal.TheVariants.{NotGood}
use Rattle.std.specs.Prelude.{Err, Ok, Some, None, ◌==◌}
use Rattle.std.proofs.Common.{below_more}
use Rattle.std.proofs.lemmas.Bool.Decides.{nat_tests}
use Rattle.std.proofs.lemmas.Option.{cond_some}
use Rattle.std.proofs.lemmas.List.{get_or-set_same, get_or-set_other}
use mathlib.Core.Path.{◌≡◌, refl, sym, ◌∙◌}
use mathlib.Core.Bool.{Bool, true, false, ◌&&◌, and-false}
use mathlib.Core.List.{List, [], ◌∷◌}
use native.Mathlib.Nat.{lt_of_lt_of_le, pow-le-pow_right}
use native.Mathlib.Omega.{arith}
use lib.Dec.{eqb, lit<, lit≤}
use lib.ListN.{length, drop, get_or, set, length-take, length-drop}
use lib.Seq.{length-take-le, take_all, drop-drop, get_or-drop}
use borrow.Author.Tests.{eq-eqb, ne_eqb}
use Rattle.rules.specs.Bytes.{between, every, part, same}
use Rattle.rules.specs.Numbers.{is_digit, decimal}
use Rattle.rules.specs.Messages.{are_pairs, pair_at, clock_of}
use Rattle.rules.specs.Answers.{or_question, message_if}
use Rattle.rules.specs.declared.Message as MessageType
use Rattle.rules.specs.declared.Message.TheVariants.{Question}
use Rattle.rules.specs.declared.Frame.TheVariants.{Message}
use Rattle.frame_laws.proofs.Bytes.{both}
use Rattle.frame_laws.proofs.Numbers.{decimal_below}
use Rattle.texts.specs.Numbers.{digits_in}
use Rattle.texts.proofs.Steps.{at as from_place, done}

-- Nothing behind the letters is a question; anything else a response, or a refusal where its test fails.
told : (letters : ℕ) (t : List ℕ) (r : Read) → (length t ≡ 0 → ⊥) → r ≡ or_question letters t r
told letters [] r h = absurd (h refl)
told letters (b ∷ bs) r h = refl

pub asked : (letters : ℕ) (t : List ℕ) (r : Read) → length t ≡ 0 → Ok (Message (Question letters)) ≡ or_question letters t r
asked letters [] r h = refl
asked letters (b ∷ bs) r h = absurd (omega arith)

module _ (letters : ℕ) (t : List ℕ) {keeps : Bool} (some : length t ≡ 0 → ⊥) where
  pub refused : (m : MessageType.Message) → keeps ≡ false → Err NotGood ≡ or_question letters t (message_if keeps m)
  refused m e = rw e (told letters t (Err NotGood) some)

  pub accepted : {m n : MessageType.Message} → keeps ≡ true → m ≡ n → Ok (Message m) ≡ or_question letters t (message_if keeps n)
  accepted {m} {n} e q = rw (e, q) (told letters t (Ok (Message n)) some)

-- Digits, at most nine of them: what is read of them is what the definitions say.
module _ (t : List ℕ) where
  abbrev row : Bool
  row = between 1 9 (length t) && every is_digit t

  pub digits_some : {n : ℕ} → Some n ≡ digits_in t → (every is_digit t ≡ true) × (n ≡ decimal t) × (n < 10 ^ length t)
  unfolding digits_in
  digits_some {n} e =
      let found = cond_some row (decimal t) n (sym e) in
      let digits = (both (between 1 9 (length t)) (every is_digit t) found.0).1 in
      (digits, sym found.1, rw (← found.1) (decimal_below t digits))

  pub digits_none : 1 ≤ length t → length t ≤ 9 → None ≡ digits_in t → every is_digit t ≡ false
  unfolding digits_in
  digits_none low high e = grind (arith, nat_tests)

-- Two bytes from a place on, or what there is of them.
pub pair_small : (t : List ℕ) (a : ℕ) {n : ℕ} → Some n ≡ digits_in (part a 2 t) → n < 100
pair_small t a e =
    let two : length (part a 2 t) ≤ 2 = omega (arith, length-take 2 (drop a t)) in
    lt_of_lt_of_le (digits_some (part a 2 t) e).2 (pow-le-pow_right (lit< tt) two)

-- One pair and its mark, and those from the next place on; and the last pair.
module _ (cs t : List ℕ) (k : ℕ) where
  pub next_pair : k < length cs
      → are_pairs (drop k cs) (drop (3 * k) t)
      ≡ every is_digit (part (3 * k) 2 t) && eqb (get_or t (3 * k + 2) 0) (get_or cs k 0) && are_pairs (drop (k + 1) cs) (drop (3 * (k + 1)) t)
  unfolding are_pairs
  next_pair h =
      let q : 3 * (k + 1) ≡ 3 * k + 3 = omega arith in
      rw (from_place cs k h, get_or-drop, drop-drop, q)

  pub last_pair : length cs ≤ k → length t ≡ 3 * k + 2 → are_pairs (drop k cs) (drop (3 * k) t) ≡ every is_digit (part (3 * k) 2 t)
  unfolding are_pairs
  last_pair h l =
      let two : length (drop (3 * k) t) ≡ 2 = length-drop (3 * k) t ∙ omega arith in
      rw (done cs k h, eq-eqb (length (drop (3 * k) t)) 2 two, take_all 2 (drop (3 * k) t) (omega arith))

-- Pairs are read from the front: what the k-th of them and its mark tell of the whole.
module _ (marks t : List ℕ) (k : ℕ) (so_far : are_pairs marks t ≡ are_pairs (drop k marks) (drop (3 * k) t)) where
  module _ (more : k < length marks) where
    pub other_mark : (get_or t (3 * k + 2) 0 ≡ get_or marks k 0 → ⊥) → are_pairs marks t ≡ false
    other_mark e = so_far ∙ next_pair marks t k more ∙ rw (ne_eqb _ _ e, and-false)

    pub no_pair : every is_digit (part (3 * k) 2 t) ≡ false → are_pairs marks t ≡ false
    no_pair e = so_far ∙ next_pair marks t k more ∙ rw e

    pub one_pair : every is_digit (part (3 * k) 2 t) ≡ true → get_or t (3 * k + 2) 0 ≡ get_or marks k 0
        → are_pairs marks t ≡ are_pairs (drop (k + 1) marks) (drop (3 * (k + 1)) t)
    one_pair e f = so_far ∙ next_pair marks t k more ∙ rw (e, eq-eqb _ _ f)

  pub all_pairs : length marks ≤ k → length t ≡ 3 * k + 2 → are_pairs marks t ≡ every is_digit (part (3 * k) 2 t)
  all_pairs none l = so_far ∙ last_pair marks t k none l

-- two bytes that are no number are not both digits
pub pair_none : (t : List ℕ) (a : ℕ) → a + 2 ≤ length t → None ≡ digits_in (part a 2 t) → every is_digit (part a 2 t) ≡ false
pair_none t a room e =
    let two : length (part a 2 t) ≡ 2 = length-take-le 2 (drop a t) (omega (arith, length-drop a t)) in
    digits_none (part a 2 t) (omega arith) (omega arith) e

-- the numbers that are stored, and one more
pub stored : (numbers t : List ℕ) (k n : ℕ) → k < length numbers → n ≡ pair_at t k
    → ((j : ℕ) → j < k → get_or numbers j 0 ≡ pair_at t j)
    → (j : ℕ) → j < k + 1 → get_or (set numbers k n) j 0 ≡ pair_at t j
stored numbers t k n room e so_far = below_more (λ (j : ℕ). get_or (set numbers k n) j 0 ≡ pair_at t j) k (λ j h. get_or-set_other numbers k j n 0 (omega arith) ∙ so_far j h) (get_or-set_same numbers k n 0 room ∙ e)

-- six of them are a date and a time
pub clock_read : (numbers t : List ℕ) → ((k : ℕ) → k ≤ 5 → get_or numbers k 0 ≡ pair_at t k)
    → record { year = get_or numbers 0 0; month = get_or numbers 1 0; day = get_or numbers 2 0; hour = get_or numbers 3 0; minute = get_or numbers 4 0; second = get_or numbers 5 0 } ≡ clock_of t
unfolding clock_of
clock_read numbers t e = rw (e 0 (lit≤ tt), e 1 (lit≤ tt), e 2 (lit≤ tt), e 3 (lit≤ tt), e 4 (lit≤ tt), e 5 (lit≤ tt))

-- only no bytes are the same as none
pub same_none : (t : List ℕ) → same t [] ≡ (length t == 0)
unfolding same
same_none [] = refl
same_none (b ∷ bs) = sym (ne_eqb (suc (length bs)) 0 (omega arith))
