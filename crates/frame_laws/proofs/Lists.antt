-- Laws of lists that the readers need: a list as its elements, the part before and the part behind, and bytes that add up.
-- Assumes nothing.
use Prim.Native.Nat.{ℕ, zero, suc, ◌+◌, ◌*◌, ◌≤◌, ◌<◌}
use mathlib.Core.Path.{◌≡◌, refl, sym, ap, subst, ◌∙◌}
use mathlib.Core.Bool.{Bool, false, ◌&&◌, and-false}
use mathlib.Core.List.{List, [], ◌∷◌, ◌++◌, append-nil}
use native.Mathlib.Nat.{add-zero, add-suc, suc-add}
use native.Mathlib.Omega.{arith}
use borrow.Author.Tests.{eq-eqb}
use lib.Dec.{eqb, lit<}
use lib.ListN.{length, take, drop, get_or, drop_of_length-le}
use lib.Seq.{drop-cons, get_or-drop, take_at}
use Rattle.rules.specs.Bytes.{same, part, total}

-- the n elements of a list from place i on, one by one
abbrev pub elements : ℕ → ℕ → List ℕ → List ℕ
elements i zero l = []
elements i (suc n) l = get_or l i 0 ∷ elements (suc i) n l

-- a list from place i on is its next n elements and what is behind them
pub next : (n i : ℕ) (l : List ℕ) → i + n ≤ length l → drop i l ≡ elements i n l ++ drop (i + n) l
next zero i l h = ap (λ (k : ℕ). drop k l) (sym (add-zero i))
next (suc n) i l h =
    let s : i + suc n ≡ suc i + n = add-suc i n ∙ sym (suc-add i n) in
    drop-cons l i 0 (omega arith)
    ∙ ap (λ (m : List ℕ). get_or l i 0 ∷ m) (next n (suc i) l (omega arith) ∙ ap (λ (k : ℕ). elements (suc i) n l ++ drop k l) (sym s))

-- the last n elements
pub last : (n i : ℕ) (l : List ℕ) → length l ≡ i + n → drop i l ≡ elements i n l
last n i l h =
    let past : length l ≤ i + n = omega arith in
    next n i l (omega arith) ∙ ap (λ (m : List ℕ). elements i n l ++ m) (drop_of_length-le l past) ∙ append-nil (elements i n l)

elements_length : (n i : ℕ) (l : List ℕ) → length (elements i n l) ≡ n
elements_length zero i l = refl
elements_length (suc n) i l = ap suc (elements_length n (suc i) l)

-- a part of a list is its elements
pub part_elements : (i n : ℕ) (l : List ℕ) → i + n ≤ length l → part i n l ≡ elements i n l
part_elements i n l h =
    ap (take n) (next n i l h) ∙ take_at (elements i n l) (drop (i + n) l) n (elements_length n i l)

-- lists of two lengths are not the same
pub lengths_differ : (s t : List ℕ) → (length s ≡ length t → ⊥) → same s t ≡ false
unfolding same
lengths_differ [] [] h = absurd (h refl)
lengths_differ [] (c ∷ cs) h = refl
lengths_differ (b ∷ bs) [] h = refl
lengths_differ (b ∷ bs) (c ∷ cs) h = rw (lengths_differ bs cs (λ e. h (ap suc e))) (and-false (eqb b c))

-- what stands in front of both does not matter
pub same_front : (p s t : List ℕ) → same (p ++ s) (p ++ t) ≡ same s t
unfolding same
same_front [] s t = refl
same_front (b ∷ p) s t = ap (λ (x : Bool). x && same (p ++ s) (p ++ t)) (eq-eqb b b refl) ∙ same_front p s t

-- every place of the list holds a byte; past its end `get_or` gives 0
abbrev pub AreBytes : List ℕ → Type 0
AreBytes l = (i : ℕ) → get_or l i 0 < 256

pub bytes_drop : (n : ℕ) (l : List ℕ) → AreBytes l → AreBytes (drop n l)
bytes_drop n l h i = subst (λ (x : ℕ). x < 256) (sym (get_or-drop n l i 0)) (h (n + i))

pub bytes_take : (n : ℕ) (l : List ℕ) → AreBytes l → AreBytes (take n l)
bytes_take zero l h i = lit< tt
bytes_take (suc n) [] h i = lit< tt
bytes_take (suc n) (x ∷ l) h zero = h zero
bytes_take (suc n) (x ∷ l) h (suc i) = bytes_take n l (λ k. h (suc k)) i

-- the sum of n bytes is at most 255 n
pub total_below : (l : List ℕ) → AreBytes l → total l ≤ 255 * length l
unfolding total
total_below [] h = omega arith
total_below (x ∷ l) h =
    let first : x < 256 = h zero in
    let rest : total l ≤ 255 * length l = total_below l (λ k. h (suc k)) in
    omega arith
