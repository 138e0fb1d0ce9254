-- `row_writer::fits::fit` meets its contract. Assumes nothing.
use Rattle.std.proofs.Common.{rules, ◌∙◌}
use Rattle.std.proofs.lemmas.Iterator.{YieldsList-from_slice}
use Rattle.std.proofs.lemmas.Iterator.Search.{all_from_yields_List}
use Rattle.row_writer.specs.Given.{at_most}
use Rattle.row_writer.proofs.Values.{every_all}
use Rattle.row_writer.proofs.fits.fit.Goals as goal

pub returns : goal.returns
returns c =
    all_from_yields_List (at_most c.args.limit) _ _ c.all.result c.all.ensures.ran (YieldsList-from_slice c.args.values.now cc) (λ x b q k. search rules)
    ∙ every_all (at_most c.args.limit) c.args.values.now
