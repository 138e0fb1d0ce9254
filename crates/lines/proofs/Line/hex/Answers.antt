-- `lines::Line::hex` meets its contract: each byte is typed in its turn, and behind the last nothing is left to be typed.
-- Assumes nothing.
use Rattle.rules.specs.Numbers.{hex_digits}
use Rattle.lines.proofs.Typed.{line_each_step, line_all_typed}
use Rattle.lines.proofs.Line.hex.Goals as goal

pub loop-b-preserved : goal.loop-b-preserved
loop-b-preserved c = line_each_step hex_digits c.loop-b.b-index _ c.loop-b.invariant c.loop-b-test.true c.hex_byte.ensures

pub returns : goal.returns
returns c = line_all_typed hex_digits c.loop-b.b-index _ c.loop-b.invariant c.loop-b-test.false
