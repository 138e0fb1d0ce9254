-- The loop of `replays::values::shown`: what is left to be typed makes the line that all values make.
-- Assumes nothing.
use Rattle.lines.proofs.Typed.{LineLeft}
use Rattle.replays.specs.Texts.{shown_texts}
use Rattle.replays.proofs.values.shown.Given as goal

abbrev pub invariant-loop-form : goal.invariant-loop-form
invariant-loop-form l = LineLeft (shown_texts l.form-iterator.a.rest.now l.form-iterator.b.rest.now) l.line (shown_texts l.forms l.values) l.initial.line
