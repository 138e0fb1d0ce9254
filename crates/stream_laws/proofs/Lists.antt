-- Laws of lists of bytes, place by place: tests, the front of a list, and its rest.
-- Assumes nothing.
use Prim.Native.Nat.{ℕ, zero, suc, ◌-◌, ◌<◌}
use mathlib.Core.Path.{◌≡◌, refl}
use mathlib.Core.Bool.{Bool, true, false, and-false}
use mathlib.Core.List.{List, [], ◌∷◌, ◌++◌}
use native.Mathlib.Omega.{arith}
use lib.ListN.{length, take, drop, get_or, length-take, length-drop, take-append-drop}
use lib.Seq.{get_or-take, take_all}
use Rattle.rules.specs.Bytes.{every}
use Rattle.frame_laws.proofs.Bytes.{both_pass}

-- a test that passes at each place passes for the list, and one that fails at a place fails for it
pub every_at : (test : ℕ → Bool) (bs : List ℕ) → ((i : ℕ) → i < length bs → test (get_or bs i 0) ≡ true) → every test bs ≡ true
unfolding every
every_at test [] h = refl
every_at test (b ∷ bs) h = both_pass (test b) (every test bs) (h 0 (omega arith)) (every_at test bs (λ i p. h (suc i) (omega arith)))

pub fails_at : (test : ℕ → Bool) (bs : List ℕ) (i : ℕ) → i < length bs → test (get_or bs i 0) ≡ false → every test bs ≡ false
unfolding every
fails_at test [] i p e = absurd (omega arith)
fails_at test (b ∷ bs) zero p e = rw e
fails_at test (b ∷ bs) (suc i) p e = rw (fails_at test bs i (omega arith) e) (and-false (test b))

-- a front has the list's bytes, and the list is the front and what is behind it
pub front_at : (bs : List ℕ) (m i : ℕ) → i < length (take m bs) → get_or (take m bs) i 0 ≡ get_or bs i 0
front_at bs m i p = get_or-take m bs i 0 (omega (arith, length-take m bs))

pub front_and_rest : (bs : List ℕ) (m : ℕ) (front : List ℕ) → take m bs ≡ front → bs ≡ front ++ drop m bs
front_and_rest bs m front e = rw (← e, take-append-drop)

-- a part from k on that reaches to the end is all that is behind k
pub whole_rest : (bs : List ℕ) (k : ℕ) → take (length bs - k) (drop k bs) ≡ drop k bs
whole_rest bs k = take_all (length bs - k) (drop k bs) (omega (arith, length-drop k bs))
