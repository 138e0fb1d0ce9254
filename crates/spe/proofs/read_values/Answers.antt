-- `spe::read_values` meets its contract: each value is what the rules read from the text of its field.
-- Assumes nothing.
use Rattle.spe.proofs.Values.{status_at}
use Rattle.spe.proofs.read_values.Goals as goal

pub returns : goal.returns
returns c =
    status_at c.args.comma c.args.d.now c.requires.0 c.requires.1
    c.two_at.ensures c.two_at-2.ensures
    c.four_at.ensures c.four_at-2.ensures c.four_at-3.ensures
    c.three_at.ensures c.three_at-2.ensures c.three_at-3.ensures c.three_at-4.ensures c.three_at-5.ensures
