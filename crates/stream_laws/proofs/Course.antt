-- How the head of a list comes about byte by byte: it is undecided until a number of bytes is there, and from then on
-- what it is. What the readers need of a head follows from that, whatever the family.
-- Assumes nothing.
use Prim.Native.Nat.{ℕ, ◌<◌, ◌≤◌}
use Rattle.rules.specs.Answers.{Read}
use Rattle.std.specs.Prelude.{Err, Ok}
use mathlib.Core.Path.{◌≡◌, refl}
use mathlib.Core.Bool.{Bool, true, false, cond}
use mathlib.Core.List.{List}
use native.Mathlib.Omega.{arith}
use lib.ListN.{length, take}
use Rattle.rules.specs.Answers.{read_one}
use Rattle.rules.specs.declared.Frame.{Frame}
use Rattle.stream_rules.specs.Heads.{longest, length_at, Head, wait, bad, good, head_of, head}
use Rattle.stream_laws.specs.Settled.{settled}
use Rattle.rules.specs.declared.Refusal.{Refusal}

-- The first s bytes settle the head: it is h with them and any more, and undecided with fewer.
pub record Settles (family : ℕ) (bs : List ℕ) (s : ℕ) (h : Head) : Type 0 where
  pub some : 0 < s
  pub there : s ≤ length bs
  pub short : s ≤ longest family
  pub before : (m : ℕ) → m < s → head family (take m bs) ≡ wait
  pub after : (m : ℕ) → s ≤ m → head family (take m bs) ≡ h
  pub counted : settled family bs ≡ s

-- The course of a start: it is undecided all along, and shorter than the longest frame; or it turns out bad; or its
-- frame is whole, and decided by the reader of one frame.
pub data Course (family : ℕ) (bs : List ℕ) : Type 0 where
  waits : ((m : ℕ) → head family (take m bs) ≡ wait) → length bs < longest family → Course family bs
  turns_bad : (s : ℕ) → Settles family bs s bad → Course family bs
  is_whole : (n : ℕ) → length_at family bs ≡ n → Settles family bs n (head_of n (read_one family (take n bs))) → Course family bs

-- An answer that is a refusal where a test fails: where it is good, the test passed.
pub passed : (test : Bool) (r : Read) (n : Refusal) (f : Frame) → cond test r (Err n) ≡ Ok f → (test ≡ true) × (r ≡ Ok f)
passed true r n f e = (refl, e)
passed false r n f e = (cc, cc)

-- A head by the reader of one frame is not undecided; a good one is what was read; and where nothing good was read, it
-- is bad.
pub head_of_decided : (n : ℕ) (r : Read) → head_of n r ≡ wait → ⊥
head_of_decided n (Ok f) e = let z : ◌≡◌ {A = ℕ} 0 1 = cc in omega arith
head_of_decided n (Err number) e = let z : ◌≡◌ {A = ℕ} 0 1 = cc in omega arith

pub head_of_good : (n k : ℕ) (f : Frame) (r : Read) → head_of n r ≡ good k f → (n ≡ k) × (r ≡ Ok f)
head_of_good n k f (Ok g) e = (cc, cc)
head_of_good n k f (Err number) e = (cc, cc)

pub head_of_bad : (n : ℕ) (r : Read) → ((f : Frame) → r ≡ Ok f → ⊥) → head_of n r ≡ bad
head_of_bad n (Ok f) never = absurd (never f refl)
head_of_bad n (Err number) never = refl
