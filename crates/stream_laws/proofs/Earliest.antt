-- The rule's frames are the good frames of demand 2, earliest first, and no other list is. The rule passes over a start
-- exactly where no good frame begins, since the head of a list is good wherever one does. Assumes nothing.
use Prim.Native.Nat.{ℕ, zero, suc, ◌+◌, ◌-◌, ◌≤◌, ◌<◌}
use mathlib.Core.Path.{◌≡◌, refl, sym, ap, ap₂, subst, ◌∙◌}
use mathlib.Core.List.{List, [], ◌∷◌}
use native.Mathlib.Nat.{add-suc, add-zero}
use native.Mathlib.Decide.{dec_le}
use native.Mathlib.Omega.{arith}
use lib.ListN.{length, drop, length-drop}
use lib.Seq.{drop-drop}
use Rattle.rules.specs.declared.Frame.{Frame}
use Rattle.stream_rules.specs.Heads.{Head, wait, bad, good, longest, head}
use Rattle.stream_rules.specs.Rule.{Found, rule}
use Rattle.stream_rules.specs.Lister.{frames}
use Rattle.stream_laws.specs.Earliest.{GoodAt, NoneBetween, EarliestFirst}
use Rattle.stream_laws.proofs.Facts.{Facts}
use Rattle.stream_laws.proofs.Heads.{complete, good_head}
use Rattle.stream_laws.proofs.Looks.{found, rule_good, rule_bad, rule_wait}

rest_behind : (bs : List ℕ) (from k b : ℕ) (rest : List ℕ) → drop (from + k) bs ≡ b ∷ rest → drop (from + suc k) bs ≡ rest
rest_behind bs from k b rest e =
    let place : from + suc k ≡ from + k + 1 = omega arith in
    ap (λ (i : ℕ). drop i bs) place ∙ sym (drop-drop 1 (from + k) bs) ∙ ap (drop 1) e

module _ (family : ℕ) (facts : Facts (head family) (longest family)) (bs : List ℕ) where
  good_at_head : (j n : ℕ) (f : Frame) → GoodAt family bs j n f → head family (drop j bs) ≡ good n f
  good_at_head j n f g = complete family (drop j bs) n f (rw (length-drop j bs) (omega (arith, g.inside))) g.reads

  head_good_at : (j n : ℕ) (f : Frame) → head family (drop j bs) ≡ good n f → GoodAt family bs j n f
  head_good_at j n f e =
      let size = facts.fits (drop j bs) n f e in
      let whole : n ≤ length bs - j = rw (length-drop j bs) at size.2 in
      record { inside = omega (arith, size.0); reads = (good_head family (drop j bs) n f e).read }

  none_at : (from k : ℕ) → NoneBetween family bs from (from + k) → ((n : ℕ) (f : Frame) → head family (drop (from + k) bs) ≡ good n f → ⊥)
      → NoneBetween family bs from (from + suc k)
  none_at from k before here j n f p q g = go (dec_le (from + k) j)
    where
      go : Dec (from + k ≤ j) → ⊥
      go (yes r) = let same : j ≡ from + k = omega arith in here n f (rw (← same) (good_at_head j n f g))
      go (no r) = before j n f p (omega arith) g

  -- The rule from a place on, when k bytes were passed over since `from`:
  Lists : ℕ → ℕ → List ℕ → Type 0
  Lists from k rest = NoneBetween family bs from (from + k) → EarliestFirst family bs from (rule (head family) 0 (from + k) k rest)

  passes : (from k b : ℕ) (rest : List ℕ) → drop (from + k) bs ≡ b ∷ rest
      → rule (head family) 0 (from + k) k (b ∷ rest) ≡ rule (head family) 0 (suc (from + k)) (suc k) rest
      → ((n : ℕ) (f : Frame) → head family (b ∷ rest) ≡ good n f → ⊥)
      → Lists from (suc k) rest → Lists from k (b ∷ rest)
  unfolding Lists
  passes from k b rest e same not-Good later before =
      subst
      (EarliestFirst family bs from)
      (ap (λ (i : ℕ). rule (head family) 0 i (suc k) rest) (add-suc from k) ∙ sym same)
      (later (none_at from k before (λ n f g. not-Good n f (ap (head family) (sym e) ∙ g))))

  one_start : (fuel : ℕ) → ((from k : ℕ) (rest : List ℕ) → drop (from + k) bs ≡ rest → length rest < fuel → Lists from k rest)
      → (from k b : ℕ) (rest : List ℕ) → drop (from + k) bs ≡ b ∷ rest → length rest < fuel
      → (x : Head) → head family (b ∷ rest) ≡ x → Lists from k (b ∷ rest)
  unfolding Lists
  one_start fuel later from k b rest e p wait h before =
      passes from k b rest e (rule_wait (head family) (from + k) k b rest h) (λ n f g. let z : ◌≡◌ {A = ℕ} 0 1 = cc in omega arith)
      (later from (suc k) rest (rest_behind bs from k b rest e) p)
      before
  one_start fuel later from k b rest e p bad h before =
      passes from k b rest e (rule_bad (head family) (from + k) k b rest h) (λ n f g. let z : ◌≡◌ {A = ℕ} 0 1 = cc in omega arith)
      (later from (suc k) rest (rest_behind bs from k b rest e) p)
      before
  one_start fuel later from k b rest e p (good n f) h before =
      let size = facts.fits (b ∷ rest) n f h in
      let behind : drop (from + k + n + 0) bs ≡ drop n (b ∷ rest) =
      ap (λ (i : ℕ). drop i bs) (add-zero (from + k + n)) ∙ sym (drop-drop n (from + k) bs) ∙ ap (drop n) e in
      let fewer : length (drop n (b ∷ rest)) < fuel = rw (length-drop n (b ∷ rest)) (omega (arith, size.0)) in
      subst
      (EarliestFirst family bs from)
      (sym (rule_good (head family) (from + k) k b rest n f h size.0))
      (EarliestFirst.next k n f before (head_good_at (from + k) n f (ap (head family) e ∙ h))
      (subst
      (λ (i : ℕ). EarliestFirst family bs (from + k + n) (rule (head family) 0 i 0 (drop n (b ∷ rest))))
      (add-zero (from + k + n))
      (later (from + k + n) 0 (drop n (b ∷ rest)) behind fewer (λ j m g p q r. absurd (omega arith)))))

  earliest_from : (fuel from k : ℕ) (rest : List ℕ) → drop (from + k) bs ≡ rest → length rest < fuel → Lists from k rest
  unfolding Lists rule
  earliest_from zero from k rest e p before = absurd (omega arith)
  earliest_from (suc fuel) from k [] e p before =
      let size : length bs - (from + k) ≡ 0 = sym (length-drop (from + k) bs) ∙ ap length e in
      EarliestFirst.none (λ j n f q r g. before j n f q (omega arith) g)
  earliest_from (suc fuel) from k (b ∷ rest) e p before =
      one_start fuel (earliest_from fuel) from k b rest e (omega arith) (head family (b ∷ rest)) refl before

  pub frames_earliest : EarliestFirst family bs 0 (frames family bs)
  unfolding Lists
  frames_earliest = earliest_from (suc (length bs)) 0 0 bs refl (omega arith) (λ j n f p q g. omega arith)

  -- Two such lists are equal.
  begins_inside : (j n : ℕ) (f : Frame) → GoodAt family bs j n f → j < length bs
  begins_inside j n f g = let size = facts.fits (drop j bs) n f (good_at_head j n f g) in omega (arith, size.0, g.inside)

  same_place : (from j k n m : ℕ) (f g : Frame) → NoneBetween family bs from j → NoneBetween family bs from k → from ≤ j → from ≤ k
      → GoodAt family bs j n f → GoodAt family bs k m g → j ≡ k
  same_place from j k n m f g p q s t a b = go (dec_le j k) (dec_le k j)
    where
      go : Dec (j ≤ k) → Dec (k ≤ j) → j ≡ k
      go (yes u) (yes v) = omega arith
      go (yes u) (no v) = absurd (q j n f s (omega arith) a)
      go (no u) (yes v) = absurd (p k m g t (omega arith) b)
      go (no u) (no v) = absurd (omega arith)

  same_frame : (j k n m : ℕ) (f g : Frame) → j ≡ k → GoodAt family bs j n f → GoodAt family bs k m g → (n ≡ m) × (f ≡ g)
  same_frame j k n m f g e a b =
      let heads : good n f ≡ good m g = sym (good_at_head j n f a) ∙ ap (λ (i : ℕ). head family (drop i bs)) e ∙ good_at_head k m g b in
      (cc, cc)

  one_list : {from from' : ℕ} {fs gs : List Found} → from ≡ from' → EarliestFirst family bs from fs → EarliestFirst family bs from' gs → fs ≡ gs
  one_list e (EarliestFirst.none p) (EarliestFirst.none q) = refl
  one_list e (EarliestFirst.none p) (EarliestFirst.next k n f q g r) = absurd (p _ n f (omega arith) (begins_inside _ n f g) g)
  one_list e (EarliestFirst.next k n f q g r) (EarliestFirst.none p) = absurd (p _ n f (omega arith) (begins_inside _ n f g) g)
  one_list {from = from} {from' = from'} e (EarliestFirst.next k n f q g r) (EarliestFirst.next k' n' f' q' g' r') =
      let place : from + k ≡ from' + k' =
      same_place from (from + k) (from' + k') n n' f f' q (λ j m h u v. q' j m h (omega arith) v) (omega arith) (omega arith) g g' in
      let skipped : k ≡ k' = omega arith in
      let same = same_frame (from + k) (from' + k') n n' f f' place g g' in
      let first : found (from + k) k n f ≡ found (from' + k') k' n' f' = λ i. found (place i) (skipped i) (same.0 i) (same.1 i) in
      let behind : from + k + n ≡ from' + k' + n' = omega (arith, same.0) in
      ap₂ (λ (h : Found) (hs : List Found). h ∷ hs) first (one_list behind r r')

  pub frames_only : (fs : List Found) → EarliestFirst family bs 0 fs → fs ≡ frames family bs
  frames_only fs e = one_list refl e frames_earliest
