-- What is left to show of `lister::steps::past_unopened`, with the invariants beside. Assumes nothing.
use mathlib.Core.Path.{sym, ap, ◌∙◌}
use native.Mathlib.Omega.{arith}
use Rattle.stream_rules.specs.declared.Brackets.{Brackets}
use Rattle.stream_laws.proofs.Bracketed.{bracketed}
use Rattle.lister.proofs.Skips.{nothing_passed, over_byte, further}
use Rattle.lister.proofs.steps.past_unopened.Goals as goal

pub loop-at-init : goal.loop-at-init
loop-at-init c = nothing_passed _ _ _ c.requires.1

pub loop-at-preserved : goal.loop-at-preserved
loop-at-preserved c =
    further _ _ _ _ _ c.loop-at.invariant
    (over_byte _ (bracketed _ c.requires.0.0) _ _ (omega arith) (λ e. c.if-s-at.false (e ∙ sym (ap (λ (b : Brackets). b.opening) c.brackets_of-opening.ensures))))
