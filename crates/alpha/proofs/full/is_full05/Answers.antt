-- `alpha::full::is_full05` meets its contract: its bounds are those of full width, and no byte stands in the gap
-- that they leave between the digits and the letters. Assumes nothing.
use mathlib.Core.Path.{sym, ◌∙◌}
use Rattle.rules.specs.Sentences.{commas}
use Rattle.frame_laws.proofs.Bytes.{both}
use Rattle.alpha.proofs.Bounds.{row_of}
use Rattle.alpha.proofs.Full05.{full05}
use Rattle.alpha.proofs.full.is_full05.Goals as goal

pub returns : goal.returns
unfolding row_of commas
returns c e =
    let f = both c.within.result c.no_gap.result e in
    full05 c.args.p.now c.requires (sym c.within.ensures ∙ f.0) (sym c.no_gap.ensures ∙ f.1)
