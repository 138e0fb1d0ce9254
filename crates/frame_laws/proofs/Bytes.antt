-- Laws of tests and of lists of bytes: what a passed test says, and what passes it.
-- Each goes by the clauses of the definition it speaks of. Assumes nothing.
use Prim.Native.Nat.{ℕ, zero, suc, ◌+◌, ◌≤◌}
use mathlib.Core.Path.{◌≡◌, refl, sym, ap, ap₂, ◌∙◌}
use mathlib.Core.Bool.{Bool, true, false, ◌&&◌, ◌||◌, cond, false≢true}
use mathlib.Core.List.{List, [], ◌∷◌, ◌++◌}
use mathlib.Core.Logic.{◌⊎◌, inl, inr, ⊎_elim}
use lib.Dec.{eqb, leb}
use lib.ListN.{length, take, drop, get_or, take-append-drop, drop_of_length-le}
use lib.Seq.{drop-append-add, drop-cons}
use native.Mathlib.Numerals.{add-one}
use native.Mathlib.Omega.{arith}
use borrow.Author.Tests.{eqb-true, eq-eqb, leb-true, le-leb}
use Rattle.rules.specs.Bytes.{one_of, between, every, same}

-- Two tests pass if, and only if, each does.
pub both : (a b : Bool) → (a && b) ≡ true → (a ≡ true) × (b ≡ true)
both true b e = (refl, e)
both false b e = absurd (false≢true e)

pub both_left : (a b : Bool) → (a && b) ≡ true → a ≡ true
both_left a b e = (both a b e).0

pub both_right : (a b : Bool) → (a && b) ≡ true → b ≡ true
both_right a b e = (both a b e).1

-- for a search: each test of a row that passed, passed
pub ruleset tests = (both_left, both_right)

pub both_pass : (a b : Bool) → a ≡ true → b ≡ true → (a && b) ≡ true
both_pass a b p q = rw (p, q)

pub either : (a b : Bool) → (a || b) ≡ true → (a ≡ true) ⊎ (b ≡ true)
either true b e = inl refl
either false b e = inr e

-- Two tests that pass together are the same.
pub alike : (a b : Bool) → (a ≡ true → b ≡ true) → (b ≡ true → a ≡ true) → a ≡ b
alike true b f g = sym (f refl)
alike false true f g = g refl
alike false false f g = refl

-- A choice, once the test's answer is known.
pub cond_cases : {A : Type 0} (b : Bool) (x y z : A) → cond b x y ≡ z → ((b ≡ true) × (x ≡ z)) ⊎ ((b ≡ false) × (y ≡ z))
cond_cases true x y z e = inl (refl, e)
cond_cases false x y z e = inr (refl, e)

-- a test's answer is one of the two
pub answer : (b : Bool) → (b ≡ true) ⊎ (b ≡ false)
answer true = inl refl
answer false = inr refl

-- A byte passes `between` if, and only if, it is from low to high.
pub between_bounds : (low high b : ℕ) → between low high b ≡ true → (low ≤ b) × (b ≤ high)
between_bounds low high b e =
    let h = both (leb low b) (leb b high) e in
    (leb-true low b h.0, leb-true b high h.1)

pub bounds_between : (low high b : ℕ) → low ≤ b → b ≤ high → between low high b ≡ true
bounds_between low high b p q = both_pass (leb low b) (leb b high) (le-leb low b p) (le-leb b high q)

-- `same` is equality.
pub same_refl : (bs : List ℕ) → same bs bs ≡ true
unfolding same
same_refl [] = refl
same_refl (b ∷ bs) = both_pass (eqb b b) (same bs bs) (eq-eqb b b refl) (same_refl bs)

pub same_eq : (ps bs : List ℕ) → same ps bs ≡ true → ps ≡ bs
unfolding same
same_eq [] [] e = refl
same_eq [] (b ∷ bs) e = absurd (false≢true e)
same_eq (a ∷ ps) [] e = absurd (false≢true e)
same_eq (a ∷ ps) (b ∷ bs) e =
    let h = both (eqb a b) (same ps bs) e in
    ap₂ (λ (x : ℕ) (xs : List ℕ). x ∷ xs) (eqb-true a b h.0) (same_eq ps bs h.1)

pub eq_same : (ps bs : List ℕ) → ps ≡ bs → same ps bs ≡ true
eq_same ps bs e = rw e (same_refl bs)

-- `every` of a list and of its parts
module _ {A : Type 0} (test : A → Bool) where
  pub every_cons : (b : A) (bs : List A) → test b ≡ true → every test bs ≡ true → every test (b ∷ bs) ≡ true
  unfolding every
  every_cons b bs p q = both_pass (test b) (every test bs) p q

  pub every_split : (b : A) (bs : List A) → every test (b ∷ bs) ≡ true → (test b ≡ true) × (every test bs ≡ true)
  unfolding every
  every_split b bs e = both (test b) (every test bs) e

  pub every_append : (ps bs : List A) → every test ps ≡ true → every test bs ≡ true → every test (ps ++ bs) ≡ true
  unfolding every
  every_append [] bs p q = q
  every_append (a ∷ ps) bs p q =
      let h = every_split a ps p in
      every_cons a (ps ++ bs) h.0 (every_append ps bs h.1 q)

  pub every_left : (ps bs : List A) → every test (ps ++ bs) ≡ true → every test ps ≡ true
  unfolding every
  every_left [] bs e = refl
  every_left (a ∷ ps) bs e =
      let h = every_split a (ps ++ bs) e in
      every_cons a ps h.0 (every_left ps bs h.1)

  pub every_right : (ps bs : List A) → every test (ps ++ bs) ≡ true → every test bs ≡ true
  unfolding every
  every_right [] bs e = e
  every_right (a ∷ ps) bs e = every_right ps bs (every_split a (ps ++ bs) e).1

  pub every_take : (n : ℕ) (bs : List A) → every test bs ≡ true → every test (take n bs) ≡ true
  every_take n bs e = every_left (take n bs) (drop n bs) (rw take-append-drop e)

  pub every_drop : (n : ℕ) (bs : List A) → every test bs ≡ true → every test (drop n bs) ≡ true
  every_drop n bs e = every_right (take n bs) (drop n bs) (rw take-append-drop e)

pub every_weaker : {A : Type 0} (test other : A → Bool) → ((x : A) → test x ≡ true → other x ≡ true)
    → (xs : List A) → every test xs ≡ true → every other xs ≡ true
unfolding every
every_weaker test other weaker [] e = refl
every_weaker test other weaker (x ∷ xs) e =
    let h = every_split test x xs e in
    every_cons other x xs (weaker x h.0) (every_weaker test other weaker xs h.1)

-- What passes for each of some bytes passes for a byte that is one of them.
pub one_of_these : (test : ℕ → Bool) (cs : List ℕ) (b : ℕ) → every test cs ≡ true → one_of cs b ≡ true → test b ≡ true
unfolding every one_of
one_of_these test [] b p e = absurd (false≢true e)
one_of_these test (c ∷ cs) b p e =
    ⊎_elim
    (λ (h : eqb b c ≡ true). ap test (eqb-true b c h) ∙ (both (test c) (every test cs) p).0)
    (λ (h : one_of cs b ≡ true). one_of_these test cs b (both (test c) (every test cs) p).1 h)
    (either (eqb b c) (one_of cs b) e)

-- behind a front of k bytes and one more
pub drop_behind : (p : List ℕ) (y : ℕ) (ys : List ℕ) (k : ℕ) → length p ≡ k → drop (suc k) (p ++ y ∷ ys) ≡ ys
drop_behind p y ys k e = rw (← e, ← add-one) (drop-append-add p (y ∷ ys) 1)

-- what stands at n places from k on, one by one; in a list that ends there, it is the list from k on
abbrev pub places : {A : Type 0} → A → ℕ → ℕ → List A → List A
places none zero k xs = []
places none (suc n) k xs = get_or xs k none ∷ places none n (suc k) xs

places_drop : {A : Type 0} (none : A) (n k : ℕ) (xs : List A) → length xs ≡ n + k → places none n k xs ≡ drop k xs
places_drop none zero k xs size = sym (drop_of_length-le xs {i = k} (omega arith))
places_drop none (suc n) k xs size = rw (drop-cons xs k none (omega arith), places_drop none n (suc k) xs (omega arith))

pub one_by_one : {A : Type 0} (none : A) (n : ℕ) (xs : List A) → length xs ≡ n → places none n 0 xs ≡ xs
one_by_one none n xs size = places_drop none n 0 xs (omega arith)

-- Where a part of lent bytes stands: k places behind their front, which may be 0.
pub front_stands : (p : ℕ × ℕ) (k : ℕ) → k ≡ 0 → p ≡ (p.0, k + p.1)
front_stands p k e = λ i. (p.0, at i)
  where
    at : p.1 ≡ k + p.1
    at = omega (arith, e)

pub part_stands : (p : ℕ × ℕ) (a k : ℕ) → a ≡ k → ◌≡◌ {A = ℕ × ℕ} (p.0, a + p.1) (p.0, k + p.1)
part_stands p a k e = λ i. (p.0, e i + p.1)
