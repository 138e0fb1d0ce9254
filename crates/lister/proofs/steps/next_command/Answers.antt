-- `lister::steps::next_command` meets its contract: none stands at the start, nor behind it as far as the byte in its count's place
-- tells, nor from there on to where the marks end.
-- Assumes nothing.
use mathlib.Core.Path.{refl}
use native.Mathlib.Omega.{arith}
use Rattle.lister.proofs.Skips.{over_mark, over_four, further}
use Rattle.lister.proofs.steps.next_command.Goals as goal

pub returns-then-s-from-ne-COMMAND_MARK : goal.returns-then-s-from-ne-COMMAND_MARK
returns-then-s-from-ne-COMMAND_MARK c = (
  omega (arith, c.past_marks.ensures.on),
  further 3 _ _ _ _ (over_four 3 refl _ _ (omega (arith, c.requires.0)) c.if-s-from-ne-COMMAND_MARK.true c.requires.1) c.past_marks.ensures,
)

pub returns : goal.returns
returns c = (
  omega (arith, c.past_marks-2.ensures.on),
  further 3 _ _ _ _ (over_mark 3 refl _ _ (omega (arith, c.requires.0)) c.if-s-from-ne-COMMAND_MARK.false) c.past_marks-2.ensures,
)
