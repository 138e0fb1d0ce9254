-- `lines::Line::spaced` meets its contract: a space, and the number behind it.
-- Assumes nothing.
use Rattle.lines.proofs.Typed.{◌next◌}
use Rattle.lines.proofs.Line.spaced.Goals as goal

pub returns : goal.returns
returns c = c.text.ensures next c.number.ensures
