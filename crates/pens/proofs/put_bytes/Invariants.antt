-- `pens::put_bytes` meets its contract. The loop's invariant: the first i bytes are laid.
-- Assumes nothing.
use mathlib.Core.Path.{◌≡◌}
use lib.ListN.{take}
use Rattle.pens.specs.Pens.{laid}
use Rattle.pens.proofs.put_bytes.Given as goal

abbrev pub invariant-loop-i : goal.invariant-loop-i
invariant-loop-i l = l.out ≡ laid l.at (take l.i l.what) l.initial.out
