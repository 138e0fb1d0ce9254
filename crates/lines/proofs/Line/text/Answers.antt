-- `lines::Line::text` meets its contract: a text that fits is laid by the pen.
-- Assumes nothing.
use Rattle.std.proofs.Common.{refl, arith}
use Rattle.lines.proofs.Typed.{line_fits}
use Rattle.lines.proofs.Line.text.Goals as goal

pub returns-then-what-bytes : goal.returns-then-what-bytes
returns-then-what-bytes c = line_fits _ (omega arith) c.put_bytes.ensures refl refl
