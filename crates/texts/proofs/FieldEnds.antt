-- The texts between commas, one after the other: the first is what stands before the first comma, and the others are
-- those behind it. Assumes nothing.
use Rattle.std.proofs.Common.{◌≡◌, ℕ, suc, ◌-◌, ◌≤◌, min, Bool, true, false, cond, eqb, ltb, List, [], ◌∷◌, Some, None, inl, inr, length, take, drop, refl, ap, arith, le-ltb, lt-ltb, length-drop, drop_of_length-le, take_all}
use Rattle.std.proofs.Math.Seq.{drop-length}
use lib.Seq.{take-nil}
use Rattle.std.specs.Option.{unwrap_or}
use Rattle.std.specs.List.{position}
use Rattle.std.proofs.lemmas.Bool.{cases_lt}
use Rattle.std.proofs.lemmas.List.Recursion.{is_position_or_len}
use Rattle.rules.specs.Sentences.{onto, between_commas, behind_commas}
use Rattle.texts.specs.Commas.{to_comma}

first_text : (comma : Bool) (b n : ℕ) (bs : List ℕ) → between_commas bs ≡ take n bs ∷ behind_commas (drop n bs)
    → cond comma ([] ∷ between_commas bs) (onto b (between_commas bs))
    ≡ take (cond comma 0 (suc n)) (b ∷ bs) ∷ behind_commas (drop (cond comma 0 (suc n)) (b ∷ bs))
first_text true b n bs e = refl
first_text false b n bs e = ap (onto b) e

pub by_first : (bs : List ℕ) → between_commas bs ≡ take (to_comma bs) bs ∷ behind_commas (drop (to_comma bs) bs)
unfolding between_commas to_comma
by_first [] = refl
by_first (b ∷ bs) = first_text (eqb b 44) b (to_comma bs) bs (by_first bs)

at-most : (comma : Bool) (m n : ℕ) → m ≤ n → cond comma 0 (suc m) ≤ suc n
at-most true m n h = omega arith
at-most false m n h = omega arith

pub up_to_end : (bs : List ℕ) → to_comma bs ≤ length bs
unfolding to_comma
up_to_end [] = omega arith
up_to_end (b ∷ bs) = at-most (eqb b 44) (to_comma bs) (length bs) (up_to_end bs)

-- The first comma, as a search finds it.
by_length : (n l : ℕ) → n ≤ l → unwrap_or (cond (ltb n l) (Some n) None) l ≡ n
by_length n l h =
    elim (cases_lt n l) [
      | inl k ↦ rw (lt-ltb n l k)
      | inr k ↦ rw (le-ltb n l k) (omega arith)
    ]

pub first_place : (bs : List ℕ) → unwrap_or (position (λ b. eqb b 44) bs) (length bs) ≡ to_comma bs
unfolding to_comma
first_place bs =
    rw (← is_position_or_len to_comma (λ b. eqb b 44) refl (λ b bs. ap (λ (n : ℕ). cond (eqb b 44) 0 n) (omega arith)) bs)
    (by_length (to_comma bs) (length bs) (up_to_end bs))

-- what stands from a place on, or from the end where the place is beyond it
pub from_place : (a : ℕ) (s : List ℕ) → take (length s - min a (length s)) (drop (min a (length s)) s) ≡ drop a s
from_place a s =
    elim (cases_lt (length s) a) [
      | inl h ↦
          let e : min a (length s) ≡ length s = omega arith in
          let k : length s ≤ a = omega arith in
          rw (e, drop-length s, drop_of_length-le s k) (take-nil (length s - length s))
      | inr h ↦
          let e : min a (length s) ≡ a = omega arith in
          rw e (take_all (length s - a) (drop a s) (omega (arith, length-drop a s)))
    ]
