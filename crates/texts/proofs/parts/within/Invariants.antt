-- `texts::parts::within` meets its contract. The loop's invariant: all bytes keep their bounds exactly when those before i did and
-- those from i on do.
-- Assumes nothing.
use Rattle.std.proofs.Common.{◌≡◌, ◌&&◌, drop}
use Rattle.texts.specs.Parts.{in_bounds}
use Rattle.texts.proofs.parts.within.Given as goal

abbrev pub invariant-loop-i : goal.invariant-loop-i
invariant-loop-i l = in_bounds l.least l.most l.s ≡ (l.good && in_bounds (drop l.i l.least) (drop l.i l.most) (drop l.i l.s))
