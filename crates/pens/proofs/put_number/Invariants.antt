-- `pens::put_number` meets its contract. The loop's invariant: what is left to lay, laid into the output as it is now, gives
-- the number laid into the output as it was lent.
-- Assumes nothing.
use mathlib.Core.Path.{◌≡◌}
use Rattle.pens.specs.Pens.{laid, digits_or, number_in}
use Rattle.pens.proofs.put_number.Given as goal

abbrev pub invariant-loop-i : goal.invariant-loop-i
invariant-loop-i l = laid l.at (digits_or l.pad l.i l.left) l.out ≡ laid l.at (number_in l.pad l.w l.n) l.fn.out
