-- What demand 3 needs of a family: four facts of `h`, what stands at the head of a list of bytes, and of `top`, the
-- length of its longest frame. A family owes these and nothing more. Assumes nothing.
use Prim.Native.Nat.{ℕ, ◌≤◌, ◌<◌}
use mathlib.Core.Path.{◌≡◌, ◌∙◌}
use mathlib.Core.List.{List, [], ◌++◌}
use native.Mathlib.Omega.{arith}
use native.Mathlib.Decide.{dec_le}
use lib.ListN.{length}
use Rattle.rules.specs.declared.Frame.{Frame}
use Rattle.stream_rules.specs.Heads.{Head, wait, bad, good}

pub record Facts (h : List ℕ → Head) (top : ℕ) : Type 0 where
  -- a good frame's length is above 0, at most the longest, and at most the list's
  pub fits : (bs : List ℕ) (n : ℕ) (f : Frame) → h bs ≡ good n f → (0 < n) × (n ≤ top) × (n ≤ length bs)
  -- what is decided stays decided, the same, when bytes are added behind
  pub stays : (bs cs : List ℕ) → (h bs ≡ wait → ⊥) → h (bs ++ cs) ≡ h bs
  -- a list at least as long as the longest frame is decided
  pub decided : (bs : List ℕ) → top ≤ length bs → h bs ≡ wait → ⊥
  -- the empty list is undecided
  pub empty : h [] ≡ wait

-- a good head and a bad head are not undecided
good_no_wait : (x : Head) (n : ℕ) (f : Frame) → x ≡ good n f → x ≡ wait → ⊥
good_no_wait x n f e w = let z : ◌≡◌ {A = ℕ} 0 1 = cc in omega arith

bad_no_wait : (x : Head) → x ≡ bad → x ≡ wait → ⊥
bad_no_wait x e w = let z : ◌≡◌ {A = ℕ} 0 1 = cc in omega arith

module _ (h : List ℕ → Head) (top : ℕ) (facts : Facts h top) where
  pub good_stays : (bs cs : List ℕ) (n : ℕ) (f : Frame) → h bs ≡ good n f → h (bs ++ cs) ≡ good n f
  good_stays bs cs n f e = facts.stays bs cs (good_no_wait (h bs) n f e) ∙ e

  pub bad_stays : (bs cs : List ℕ) → h bs ≡ bad → h (bs ++ cs) ≡ bad
  bad_stays bs cs e = facts.stays bs cs (bad_no_wait (h bs) e) ∙ e

  -- An undecided start has fewer bytes than the longest frame; so the longest frame has at least one.
  pub short : (bs : List ℕ) → h bs ≡ wait → length bs < top
  short bs e = go (dec_le top (length bs))
    where
      go : Dec (top ≤ length bs) → length bs < top
      go (yes p) = absurd (facts.decided bs p e)
      go (no p) = omega arith

  pub top_above : 0 < top
  top_above = short [] facts.empty
