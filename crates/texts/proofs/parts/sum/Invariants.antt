-- `texts::parts::sum` meets its contract. The loop's invariant: the total is, modulo 2 ^ 32, `sum` and the total of the
-- bytes that are left.
-- Assumes nothing.
use Rattle.std.proofs.Common.{◌≡◌, ◌+◌, ◌%◌, ◌^◌, drop}
use Rattle.rules.specs.Bytes.{total}
use Rattle.texts.proofs.parts.sum.Given as goal

abbrev pub invariant-loop-b : goal.invariant-loop-b
invariant-loop-b l = total l.s % 2 ^ 32 ≡ (l.sum + total (drop l.b-index l.s)) % 2 ^ 32
