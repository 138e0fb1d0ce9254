-- `replays::values::shown` meets its contract: each value is typed in its turn, and behind the last nothing is left to be
-- typed.
-- Assumes nothing.
use Rattle.std.proofs.Common.{inl, inr, w64, rules}
use mir.ValLaws.{to_z-of_z}
use Rattle.lines.proofs.Typed.{line_step, line_finished}
use Rattle.replays.specs.Texts.{shown_texts}
use Rattle.replays.proofs.Onward.{no_form, no_value}
use Rattle.replays.proofs.values.shown.Goals as goal

pub loop-form-preserved : goal.loop-form-preserved
unfolding shown_texts
loop-form-preserved c =
    let taken = c.in-Some.ensures.steps in
    let read = to_z-of_z w64 c.in-Some.v.now (search rules) in
    line_step (rw (taken.0, taken.1) at c.loop-form.invariant) (rw read at c.field.ensures)

pub returns : goal.returns
returns c =
    line_finished (elim c.in-None.ensures.steps [
      | inl forms ↦ rw (no_form _ _ forms.1.0) at c.loop-form.invariant
      | inr values ↦ rw (no_value _ _ values.1.0) at c.loop-form.invariant
    ])
