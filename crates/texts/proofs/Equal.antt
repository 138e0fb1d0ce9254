-- Two texts are the same bytes where `==` of slices says so, on whichever side each stands; and a byte is one of the
-- letters where it is found among them. Assumes nothing.
use Rattle.std.proofs.Common.{◌≡◌, ℕ, eqb, List, [], ◌∷◌, refl}
use Rattle.std.specs.List.{list_any}
use Rattle.std.proofs.lemmas.Cmp.{nat_eq_equiv}
use lib.Pointwise.{pointwise}
use Rattle.rules.specs.Bytes.{same, one_of}

pub is_same : (s t : List ℕ) → pointwise eqb s t ≡ same s t
unfolding same
is_same [] [] = refl
is_same [] (c ∷ cs) = refl
is_same (b ∷ bs) [] = refl
is_same (b ∷ bs) (c ∷ cs) = rw (is_same bs cs)

pub same_turned : (s t : List ℕ) → same t s ≡ same s t
unfolding same
same_turned [] [] = refl
same_turned [] (c ∷ cs) = refl
same_turned (b ∷ bs) [] = refl
same_turned (b ∷ bs) (c ∷ cs) = rw (same_turned bs cs, nat_eq_equiv.symm c b)

pub is_one_of : (letters : List ℕ) (b : ℕ) → list_any (λ c. eqb c b) letters ≡ one_of letters b
unfolding one_of
is_one_of [] b = refl
is_one_of (c ∷ cs) b = rw (is_one_of cs b, nat_eq_equiv.symm c b)
