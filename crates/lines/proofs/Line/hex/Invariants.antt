-- The loop of `lines::Line::hex`: what is left to be typed makes the line that all bytes make.
use Rattle.std.proofs.Common.{drop}
use Rattle.lines.specs.Lines.{hex_texts}
use Rattle.lines.proofs.Typed.{LineLeft}
use Rattle.lines.proofs.Line.hex.Given as goal

abbrev pub invariant-loop-b : goal.invariant-loop-b
invariant-loop-b l = LineLeft (hex_texts (drop l.b-index l.bytes)) l.self (hex_texts l.bytes) l.initial.self
