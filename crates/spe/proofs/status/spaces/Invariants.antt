-- `spe::status::spaces` meets its contract. The loop's invariant: all bytes follow exactly when those before i did and those from
-- i on do.
-- Assumes nothing.
use mathlib.Core.Path.{◌≡◌}
use mathlib.Core.Bool.{◌&&◌}
use lib.ListN.{drop}
use Rattle.spe.specs.ReportTests.{all_follow}
use Rattle.spe.proofs.status.spaces.Given as goal

abbrev pub invariant-loop-i : goal.invariant-loop-i
invariant-loop-i l = all_follow l.marks l.d ≡ (l.good && all_follow (drop l.i l.marks) (drop l.i l.d))
