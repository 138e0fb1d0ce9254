-- What is left to show of `search::past_unmarked`, with the invariants beside. Assumes nothing.
use Prim.Native.Nat.{ℕ, ◌+◌, ◌-◌, ◌≤◌}
use mathlib.Core.Path.{ap, ◌∙◌}
use mathlib.Core.List.{List}
use native.Mathlib.Decide.{dec_lt}
use native.Mathlib.Omega.{arith}
use lib.ListN.{length, take, drop, get_or, length-take, length-drop}
use lib.Seq.{get_or-take, get_or-drop}
use Rattle.search.specs.Sought.{Unmarked}
use Rattle.search.proofs.past_unmarked.Goals as goal

-- nothing passed, and a block more
none_passed : (mark : ℕ) (s : List ℕ) (from : ℕ) → from ≤ length s → (from ≤ from) × (from ≤ length s) × Unmarked mark s from from
none_passed mark s from there = (omega arith, there, λ j p q. absurd (omega arith))

block_more : (mark : ℕ) (s : List ℕ) (from at : ℕ) → Unmarked mark s from at → Unmarked mark (take (at + 16 - at) (drop at s)) 0 16 → Unmarked mark s from (at + 16)
block_more mark s from at before block j p q =
    elim (dec_lt j at) [
      | yes earlier ↦ before j p earlier
      | no now ↦ λ e.
          block (j - at) (omega arith) (omega arith)
          (get_or-take (at + 16 - at) (drop at s) (j - at) 0 (omega arith) ∙ get_or-drop at s (j - at) 0 ∙ ap (λ (k : ℕ). get_or s k 0) (omega arith) ∙ e)
    ]

pub returns-then-family-ne-REPLIES : goal.returns-then-family-ne-REPLIES
returns-then-family-ne-REPLIES c = none_passed _ _ _ c.requires

pub loop-at-init : goal.loop-at-init
loop-at-init c = none_passed _ _ _ c.requires

pub no_mark-requires : goal.no_mark-requires
no_mark-requires c =
    omega (arith, length-take (c.loop-at.at + 16 - c.loop-at.at) (drop c.loop-at.at c.args.s.now), length-drop c.loop-at.at c.args.s.now)

pub loop-at-preserved : goal.loop-at-preserved
loop-at-preserved c = (omega arith, omega arith, block_more _ _ _ _ c.loop-at.invariant.2 (c.no_mark.ensures c.if-not-no_mark.false))
