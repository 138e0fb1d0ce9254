-- What is left to show of `pens::put_number`, with the invariant beside. Assumes nothing.
use native.Mathlib.Omega.{arith}
use mathlib.Core.Path.{◌∙◌}
use lib.ListN.{length-set}
use Rattle.pens.proofs.Digits.{digit_laid}
use Rattle.pens.proofs.put_number.Goals as goal

pub loop-i-preserved : goal.loop-i-preserved
loop-i-preserved c =
    digit_laid c.args.at c.args.pad c.loop-i.i c.loop-i.left c.loop-i.out c.digit_or.ensures (omega arith) (rw (c.loop-i.auto.out, length-set) (omega arith)) ∙ c.loop-i.invariant
