-- `alpha::full::is_full03` meets its contract: its bounds are those of full width. Assumes nothing.
use Rattle.rules.specs.Sentences.{commas}
use Rattle.alpha.proofs.Bounds.{row_of}
use Rattle.alpha.proofs.Full03.{full03}
use Rattle.alpha.proofs.full.is_full03.Goals as goal

pub returns : goal.returns
unfolding row_of commas
returns c e =
    full03 c.args.p.now c.within.result c.requires c.within.ensures e
