-- `alpha::full::is_full02` meets its contract: its bounds are those of full width. Assumes nothing.
use Prim.Native.Nat.{◌+◌, ◌*◌}
use native.Mathlib.Omega.{arith}
use Rattle.rules.specs.Sentences.{commas}
use Rattle.alpha.proofs.Bounds.{row_of}
use Rattle.alpha.proofs.Full02.{full02}
use Rattle.alpha.proofs.full.is_full02.Goals as goal

pub returns : goal.returns
unfolding row_of commas
returns c e =
    full02 c.args.p.now c.within.result (c.from.result * 100 + c.from-2.result * 10 + c.from-3.result)
    c.requires c.within.ensures (omega (arith, c.from.ensures, c.from-2.ensures, c.from-3.ensures)) e
