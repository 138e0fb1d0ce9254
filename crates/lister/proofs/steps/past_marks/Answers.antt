-- What is left to show of `lister::steps::past_marks`, with the invariants beside. Assumes nothing.
use mathlib.Core.Path.{refl}
use native.Mathlib.Omega.{arith}
use Rattle.lister.proofs.Skips.{nothing_passed, over_mark, further}
use Rattle.lister.proofs.steps.past_marks.Goals as goal

pub loop-at-init : goal.loop-at-init
loop-at-init c = nothing_passed _ _ _ c.requires

pub loop-at-preserved : goal.loop-at-preserved
loop-at-preserved c = further 3 _ _ _ _ c.loop-at.invariant (over_mark 3 refl _ _ (omega arith) c.if-s-at-ne-COMMAND_MARK.false)
