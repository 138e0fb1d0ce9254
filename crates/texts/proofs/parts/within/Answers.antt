-- What is left to show of `texts::parts::within`, with the invariants beside. Assumes nothing.
use Rattle.std.proofs.Common.{◌≡◌, ℕ, ◌+◌, ◌<◌, ◌≤◌, Bool, false, ◌&&◌, leb, List, [], ◌∷◌, length, get_or, drop, sym, refl, ap, ◌∙◌, arith}
use mathlib.Core.Bool.{and-true, and-false, and_assoc}
use Rattle.rules.specs.Bytes.{between}
use Rattle.texts.specs.Parts.{in_bounds}
use Rattle.texts.proofs.Steps.{at, done}
use Rattle.texts.proofs.parts.within.Goals as goal
use Rattle.texts.proofs.parts.within.Goals.{then-least-s-via-then-least-s, then-least-s-via-else-least-s+then-most-s}

-- bounds are missing
missing : (least most s : List ℕ) → (length s ≤ length least → length s ≤ length most → ⊥) → in_bounds least most s ≡ false
unfolding in_bounds
missing least most [] h = absurd (h (omega arith) (omega arith))
missing [] most (b ∷ s) h = refl
missing (a ∷ least) [] (b ∷ s) h = refl
missing (a ∷ least) (z ∷ most) (b ∷ s) h =
    ap (λ x. between a z b && x) (missing least most s (λ p q. h (omega arith) (omega arith))) ∙ and-false (between a z b)

-- one byte more
one_more : (least most s : List ℕ) (i : ℕ) (good : Bool) → i < length least → i < length most → i < length s
    → (good && in_bounds (drop i least) (drop i most) (drop i s))
    ≡ (good && leb (get_or least i 0) (get_or s i 0) && leb (get_or s i 0) (get_or most i 0) && in_bounds (drop (i + 1) least) (drop (i + 1) most) (drop (i + 1) s))
unfolding in_bounds
one_more least most s i good h k l = rw (at least i h, at most i k, at s i l) (simp and_assoc)

-- no byte is left
all_done : (least most s : List ℕ) (i : ℕ) (good : Bool) → length s ≤ i → (good && in_bounds (drop i least) (drop i most) (drop i s)) ≡ good
unfolding in_bounds
all_done least most s i good h = rw (done s i h) (and-true good)

pub returns-then-least-s : goal.returns-then-least-s
returns-then-least-s c =
    elim c.then-least-s.branch [
      | then-least-s-via-then-least-s w ↦ sym (missing _ _ _ (λ p q. omega arith))
      | then-least-s-via-else-least-s+then-most-s w ↦ sym (missing _ _ _ (λ p q. omega arith))
    ]

pub loop-i-preserved : goal.loop-i-preserved
loop-i-preserved c =
    c.loop-i.invariant ∙ one_more c.args.least.now c.args.most.now c.args.s.now c.loop-i.i c.loop-i.good (omega arith) (omega arith) (omega arith)

pub returns : goal.returns
returns c =
    sym (c.loop-i.invariant ∙ all_done c.args.least.now c.args.most.now c.args.s.now c.loop-i.i c.loop-i.good (omega arith))
