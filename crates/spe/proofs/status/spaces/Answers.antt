-- What is left to show of `spe::status::spaces`, with the invariants beside. Assumes nothing.
use Prim.Native.Nat.{ℕ, ◌+◌, ◌<◌}
use mathlib.Core.Path.{◌≡◌, refl, sym, ◌∙◌}
use mathlib.Core.Bool.{Bool, true, ◌&&◌, ◌||◌, not, and-true, and_assoc}
use mathlib.Core.List.{List, [], ◌∷◌}
use native.Mathlib.Omega.{arith}
use lib.Dec.{eqb}
use lib.ListN.{length, drop, get_or}
use Rattle.frame_laws.proofs.Lists.{last}
use Rattle.texts.proofs.Steps.{at}
use Rattle.spe.specs.ReportTests.{follows, all_follow}
use Rattle.spe.proofs.status.spaces.Goals as goal

-- one pair more
one_more : (marks d : List ℕ) (i : ℕ) (good : Bool) → i < length marks → i + 1 < length d
    → (good && all_follow (drop i marks) (drop i d))
    ≡ (good && (not (eqb (get_or marks i 0) 62) || follows (get_or d i 0) (get_or d (i + 1) 0)) && all_follow (drop (i + 1) marks) (drop (i + 1) d))
unfolding all_follow
one_more marks d i good h k = rw (at marks i h, at d i (omega arith), at d (i + 1) k) (simp and_assoc)

-- the last byte has none behind it
one_left : (marks : List ℕ) (a : ℕ) → all_follow marks (a ∷ []) ≡ true
unfolding all_follow
one_left [] a = refl
one_left (m ∷ marks) a = refl

all_done : (marks d : List ℕ) (i : ℕ) (good : Bool) → length d ≡ i + 1 → (good && all_follow (drop i marks) (drop i d)) ≡ good
all_done marks d i good h = rw (last 1 i d h, one_left (drop i marks) (get_or d i 0)) (and-true good)

pub loop-i-preserved : goal.loop-i-preserved
loop-i-preserved c =
    let a = c.args in
    c.loop-i.invariant ∙ one_more a.marks.now a.d.now c.loop-i.i c.loop-i.good (omega arith) (omega arith)

pub returns : goal.returns
returns c =
    let a = c.args in
    sym (c.loop-i.invariant ∙ all_done a.marks.now a.d.now c.loop-i.i c.loop-i.good (omega arith))
