-- What a look and the rule give, for code that walks the starts of a list one by one: the starts in front are passed over
-- while they are bad, or for the rule and at close while none is good, and the first other start decides. Each goes start
-- by start. Assumes nothing.
use Prim.Native.Nat.{ℕ, zero, suc, ◌+◌, ◌≤◌, ◌<◌}
use mathlib.Core.Path.{◌≡◌, refl, ap, ◌∙◌}
use mathlib.Core.List.{List, [], ◌∷◌}
use native.Mathlib.Nat.{add-zero, zero-add, suc-add, add-suc, add_assoc}
use native.Mathlib.Omega.{arith}
use lib.ListN.{length, drop, length-drop}
use lib.Seq.{drop-length}
use Rattle.rules.specs.declared.Frame.{Frame}
use Rattle.stream_rules.specs.Heads.{Head, wait, bad, good, at_close, closed_head}
use Rattle.stream_rules.specs.Rule.{ready, waiting, past, look, rule}
use Rattle.stream_laws.proofs.Facts.{Facts}
use Rattle.stream_laws.proofs.Looks.{found, drains, rule_bad, rule_wait, rule_drains}

-- the first k starts of a list are bad
abbrev pub BadBefore : (List ℕ → Head) → List ℕ → ℕ → Type 0
BadBefore h bs k = (j : ℕ) → j < k → h (drop j bs) ≡ bad

-- a start that is not good, as a bad one is; and none of the first k starts of a list is good
abbrev pub NotGood : Head → Type 0
NotGood x = (n : ℕ) (f : Frame) → x ≡ good n f → ⊥

pub bad_not_good : {h : Head} → h ≡ bad → NotGood h
bad_not_good e n f g = let z : ◌≡◌ {A = ℕ} 0 1 = cc in omega arith

abbrev pub NoneGoodBefore : (List ℕ → Head) → List ℕ → ℕ → Type 0
NoneGoodBefore h bs k = (j : ℕ) → j < k → NotGood (h (drop j bs))

module _ (h : List ℕ → Head) where
  -- Behind bad starts, a good one is ready.
  good_behind : (bs : List ℕ) (k n : ℕ) (f : Frame) → k < length bs → BadBefore h bs k → h (drop k bs) ≡ good n f
      → look h bs ≡ ready k n f (drop (k + n) bs)
  unfolding look
  good_behind [] k n f there before here = absurd (omega arith)
  good_behind (b ∷ bs) zero n f there before here = rw here (simp zero-add)
  good_behind (b ∷ bs) (suc k) n f there before here =
      rw (before 0 (omega arith)) (ap past (good_behind bs k n f (omega arith) (λ j p. before (suc j) (omega arith)) here) ∙ simp suc-add)

  -- Behind bad starts, what is left is what is left there.
  left_behind : (bs : List ℕ) (k : ℕ) → k ≤ length bs → BadBefore h bs k → look h (drop k bs) ≡ waiting 0 (drop k bs) → look h bs ≡ waiting k (drop k bs)
  unfolding look
  left_behind bs zero there before here = here
  left_behind [] (suc k) there before here = absurd (omega arith)
  left_behind (b ∷ bs) (suc k) there before here =
      rw (before 0 (omega arith)) (ap past (left_behind bs k (omega arith) (λ j p. before (suc j) (omega arith)) here))

  left_here : (bs : List ℕ) → h bs ≡ wait → look h bs ≡ waiting 0 bs
  unfolding look
  left_here [] e = refl
  left_here (b ∷ bs) e = rw e

  -- The first start that is not bad is undecided, or there is none: no frame is ready, and the bytes from it on are left.
  pub look_at_wait : (bs : List ℕ) (k : ℕ) → k ≤ length bs → BadBefore h bs k → h (drop k bs) ≡ wait → look h bs ≡ waiting k (drop k bs)
  look_at_wait bs k there before here = left_behind bs k there before (left_here (drop k bs) here)

  pub look_at_end : (bs : List ℕ) → BadBefore h bs (length bs) → look h bs ≡ waiting (length bs) []
  unfolding look
  look_at_end bs before = rw (drop-length bs) at (left_behind bs (length bs) (omega arith) before (rw (drop-length bs)))

  -- The rule passes over a start that is not good, and over as many as there are.
  passes : (at skipped b : ℕ) (bs : List ℕ) (x : Head) → h (b ∷ bs) ≡ x → NotGood x → rule h 0 at skipped (b ∷ bs) ≡ rule h 0 (suc at) (suc skipped) bs
  passes at skipped b bs wait e none = rule_wait h at skipped b bs e
  passes at skipped b bs bad e none = rule_bad h at skipped b bs e
  passes at skipped b bs (good n f) e none = absurd (none n f refl)

  pub rule_skips : (bs : List ℕ) (k at skipped : ℕ) → k ≤ length bs → NoneGoodBefore h bs k
      → rule h 0 at skipped bs ≡ rule h 0 (at + k) (skipped + k) (drop k bs)
  rule_skips bs zero at skipped there none = simp add-zero
  rule_skips [] (suc k) at skipped there none = absurd (omega arith)
  rule_skips (b ∷ bs) (suc k) at skipped there none =
      passes at skipped b bs (h (b ∷ bs)) refl (none 0 (omega arith))
      ∙ rule_skips bs k (suc at) (suc skipped) (omega arith) (λ j p. none (suc j) (omega arith))
      ∙ simp (suc-add, add-suc)

  -- At close a start that is not good is bad.
  closed_before : (bs : List ℕ) (k : ℕ) → NoneGoodBefore h bs k → BadBefore (at_close h) bs k
  closed_before bs k none j p = go (h (drop j bs)) (none j p)
    where
      go : (x : Head) → NotGood x → closed_head x ≡ bad
      go wait none = refl
      go bad none = refl
      go (good n f) none = absurd (none n f refl)

-- Where none is good, nothing is left at close.
pub close_at_end : (h : List ℕ → Head) (bs : List ℕ) → NoneGoodBefore h bs (length bs) → look (at_close h) bs ≡ waiting (length bs) []
close_at_end h bs none = look_at_end (at_close h) bs (closed_before h bs (length bs) none)

module _ {h : List ℕ → Head} {top : ℕ} (facts : Facts h top) where
  good_there : (bs : List ℕ) (k n : ℕ) (f : Frame) → h (drop k bs) ≡ good n f → k < length bs
  good_there bs k n f here =
      let size = facts.fits (drop k bs) n f here in
      omega (arith, size.0, size.2, length-drop k bs)

  -- The first start that is not bad is good: a frame is ready there.
  pub look_at_good : (bs : List ℕ) (k n : ℕ) (f : Frame) → BadBefore h bs k → h (drop k bs) ≡ good n f → look h bs ≡ ready k n f (drop (k + n) bs)
  look_at_good bs k n f before here = good_behind h bs k n f (good_there bs k n f here) before here

  -- At close it is the first good start.
  pub close_at_good : (bs : List ℕ) (k n : ℕ) (f : Frame) → NoneGoodBefore h bs k → h (drop k bs) ≡ good n f
      → look (at_close h) bs ≡ ready k n f (drop (k + n) bs)
  close_at_good bs k n f none here = good_behind (at_close h) bs k n f (good_there bs k n f here) (closed_before h bs k none) (ap closed_head here)

  -- The rule lists it, and goes on right behind it.
  pub rule_at_good : (bs : List ℕ) (k n : ℕ) (f : Frame) (at skipped : ℕ) → NoneGoodBefore h bs k → h (drop k bs) ≡ good n f
      → rule h 0 at skipped bs ≡ found (at + k) (skipped + k) n f ∷ rule h 0 (at + k + n) 0 (drop (k + n) bs)
  rule_at_good bs k n f at skipped none here =
      rule_drains h top facts bs at skipped ∙ ap (drains h at skipped) (close_at_good bs k n f none here) ∙ simp add_assoc
