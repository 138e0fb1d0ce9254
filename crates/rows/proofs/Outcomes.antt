-- What each way out of a function that lays an answer shows: its row stands at the front, or it is a refusal, which has none.
-- Assumes nothing.
use Prim.Native.Nat.{ℕ, ◌≤◌}
use mathlib.Core.Path.{◌≡◌, refl}
use mathlib.Core.Bool.{Bool, true, false, cond}
use mathlib.Core.List.{List, []}
use borrow.Author.Tests.{le-leb}
use lib.Dec.{eqb}
use lib.IntN.{ℤ}
use lib.ListN.{length}
use Rattle.rules.specs.Answers.{Answered, no, yes}
use Rattle.rows.specs.Rows.{front, LaysRow, Lays}

module _ {r numbers : List ℤ} where
  pub at_the_front : {after : List ℤ} → length r ≤ length numbers → after ≡ front r numbers → LaysRow r numbers 0 after
  at_the_front h laid = record { answers = rw (le-leb _ _ h); content = laid }

  pub lays : {kind : Answered} {vs : List ℤ} {result : ℕ} {after : List ℤ} → LaysRow r numbers result after → Lays (yes kind vs) r numbers result after
  lays p = record { answers = p.answers; content = p.content }

-- a refusal has no row
pub lays_none : {numbers : List ℤ} (n : ℕ) → Lays (no n) [] numbers n numbers
unfolding front
lays_none {numbers} n = record { answers = refl; content = same (eqb n 0) }
  where
    same : (b : Bool) → numbers ≡ cond b numbers numbers
    same true = refl
    same false = refl
