-- `lines::Line::refused` meets its contract: the word, and the number behind it.
-- Assumes nothing.
use Rattle.lines.proofs.Typed.{◌next◌}
use Rattle.lines.proofs.Line.refused.Goals as goal

pub returns : goal.returns
returns c = c.text.ensures next rw c.from.ensures at c.spaced.ensures
