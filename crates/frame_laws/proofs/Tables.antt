-- A table's rule at each place, from one test that is computed over the whole table. Assumes nothing.
use Prim.Native.Nat.{ℕ, zero, suc, ◌+◌, ◌<◌}
use mathlib.Core.Path.{◌≡◌, sym, ◌∙◌, subst}
use mathlib.Core.Bool.{Bool, true, ◌&&◌}
use mathlib.Core.List.{List, [], ◌∷◌}
use native.Mathlib.Nat.{add-zero, zero-add, add-suc, suc-add, le_of_suc-le-suc, not-suc-le-zero}
use lib.ListN.{length, get_or}
use Rattle.frame_laws.proofs.Bytes.{both}

-- each entry passes the test at its place, the first at place i
abbrev pub passes : (ℕ → ℕ → Bool) → ℕ → List ℕ → Bool
passes test i [] = true
passes test i (x ∷ xs) = test i x && passes test (suc i) xs

from : (test : ℕ → ℕ → Bool) (xs : List ℕ) (i : ℕ) → passes test i xs ≡ true → (k : ℕ) → k < length xs → test (i + k) (get_or xs k 0) ≡ true
from test [] i e k h = absurd (not-suc-le-zero h)
from test (x ∷ xs) i e zero h = rw add-zero (both (test i x) (passes test (suc i) xs) e).0
from test (x ∷ xs) i e (suc k) h =
    subst (λ (m : ℕ). test m (get_or xs k 0) ≡ true) (suc-add i k ∙ sym (add-suc i k))
    (from test xs (suc i) (both (test i x) (passes test (suc i) xs) e).1 k (le_of_suc-le-suc h))

pub at_place : (test : ℕ → ℕ → Bool) (xs : List ℕ) → passes test 0 xs ≡ true → (k : ℕ) → k < length xs → test k (get_or xs k 0) ≡ true
at_place test xs e k h = rw zero-add at (from test xs 0 e k h)
