-- A row of bytes, weighed, is the number that the rules read from it: a digit's byte is its number and 48, and 48 and the
-- space are whole sixteens.
-- Assumes nothing.
use Prim.Native.Nat.{ℕ, suc, ◌+◌, ◌-◌, ◌*◌, ◌%◌, ◌≤◌}
use mathlib.Core.Path.{◌≡◌, refl, ap, ◌∙◌}
use mathlib.Core.Bool.{true, false, false≢true, ◌&&◌}
use mathlib.Core.List.{List, [], ◌∷◌, ◌++◌}
use mathlib.Core.Logic.{⊎_elim}
use native.Mathlib.Numerals.{add-one}
use native.Mathlib.Omega.{arith}
use borrow.Author.Tests.{eqb-true}
use lib.Dec.{eqb}
use lib.ListN.{length, take, drop, get_or}
use Rattle.rules.specs.Bytes.{every, part}
use Rattle.rules.specs.Numbers.{is_digit, decimal_from, padded, padded_number, pointed, pointed_number}
use Rattle.frame_laws.proofs.Bytes.{both, between_bounds, every_split, answer}
use Rattle.frame_laws.proofs.Lists.{part_elements}
use Rattle.spe.specs.Report.{weighed}

pub digit_weighed : (b : ℕ) → is_digit b ≡ true → b % 16 ≡ b - 48
digit_weighed b e = let x = between_bounds 48 57 b e in omega arith

pub digits_weighed : (n : ℕ) (ds : List ℕ) → every is_digit ds ≡ true → weighed n ds ≡ decimal_from n ds
unfolding weighed decimal_from
digits_weighed n [] e = refl
digits_weighed n (d ∷ ds) e =
    let h = every_split is_digit d ds e in
    rw (digit_weighed d h.0) (digits_weighed (n * 10 + (d - 48)) ds h.1)

pub padded_weighed : (t : List ℕ) → padded t ≡ true → weighed 0 t ≡ padded_number t
unfolding weighed padded padded_number
padded_weighed [] e = absurd (false≢true e)
padded_weighed (b ∷ bs) e =
    ⊎_elim
    (λ (h : eqb b 32 ≡ true). rw (h, eqb-true b 32 h) (padded_weighed bs (rw h at e)))
    (λ (h : eqb b 32 ≡ false). rw h (digits_weighed 0 (b ∷ bs) (rw h at e)))
    (answer (eqb b 32))

pub weighed_append : (n : ℕ) (xs ys : List ℕ) → weighed n (xs ++ ys) ≡ weighed (weighed n xs) ys
unfolding weighed
weighed_append n [] ys = refl
weighed_append n (x ∷ xs) ys = weighed_append (n * 10 + x % 16) xs ys

pub pointed_weighed : (k : ℕ) (t : List ℕ) → pointed k t ≡ true → weighed 0 (take k t ++ drop (suc k) t) ≡ pointed_number k t
unfolding pointed pointed_number
pointed_weighed k t e =
    let h = both (padded (take k t) && eqb (get_or t k 0) 46) (every is_digit (drop (suc k) t)) e in
    let front = (both (padded (take k t)) (eqb (get_or t k 0) 46) h.0).0 in
    weighed_append 0 (take k t) (drop (suc k) t) ∙ rw (padded_weighed (take k t) front) (digits_weighed (padded_number (take k t)) (drop (suc k) t) h.1)

-- one byte, and two, behind a number that has been read
module _ (n a : ℕ) (d : List ℕ) where
  pub one_behind : a + 1 ≤ length d → weighed n (part a 1 d) ≡ n * 10 + get_or d a 0 % 16
  unfolding weighed
  one_behind h = ap (weighed n) (part_elements a 1 d h)

  pub two_behind : a + 2 ≤ length d → weighed n (part a 2 d) ≡ n * 100 + get_or d a 0 % 16 * 10 + get_or d (a + 1) 0 % 16
  unfolding weighed
  two_behind h = ap (weighed n) (part_elements a 2 d h) ∙ rw add-one (omega arith)
