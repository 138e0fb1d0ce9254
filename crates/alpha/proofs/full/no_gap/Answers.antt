-- What is left to show of `alpha::full::no_gap`, with the invariants beside. Assumes nothing.
use Prim.Native.Nat.{ℕ, ◌+◌, ◌≤◌, ◌<◌}
use mathlib.Core.Path.{◌≡◌, sym, ◌∙◌}
use mathlib.Core.Bool.{Bool, ◌&&◌, and_assoc, and-true}
use mathlib.Core.List.{List}
use lib.ListN.{length, drop, get_or}
use Rattle.rules.specs.Bytes.{every}
use Rattle.texts.proofs.Steps.{at, done}
use Rattle.alpha.specs.Payloads.{outside_gap}
use Rattle.alpha.proofs.full.no_gap.Goals as goal

-- the byte at i, and those behind it
next : (p : List ℕ) (good : Bool) (i : ℕ) → i < length p
    → good && outside_gap (get_or p i 0) && every outside_gap (drop (i + 1) p) ≡ good && every outside_gap (drop i p)
unfolding every
next p good i h = rw (at p i h) (and_assoc good (outside_gap (get_or p i 0)) (every outside_gap (drop (i + 1) p)))

-- nothing is left
ended : (p : List ℕ) (good : Bool) (i : ℕ) → length p ≤ i → good && every outside_gap (drop i p) ≡ good
unfolding every
ended p good i h = rw (done p i h) (and-true good)

pub loop-b-preserved : goal.loop-b-preserved
loop-b-preserved c = next c.args.p.now c.loop-b.good c.loop-b.b-index c.loop-b-test.true ∙ c.loop-b.invariant

pub returns : goal.returns
returns c = sym (ended c.args.p.now _ c.loop-b.b-index c.loop-b-test.false) ∙ c.loop-b.invariant
