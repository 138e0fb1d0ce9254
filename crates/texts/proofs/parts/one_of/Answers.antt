-- `texts::parts::one_of` meets its contract. Assumes nothing.
use Rattle.std.proofs.Common.{eqb, ◌∙◌, rules, tests}
use Rattle.std.proofs.lemmas.Iterator.{YieldsList-from_slice}
use Rattle.std.proofs.lemmas.Iterator.Search.{any_from_yields_List}
use Rattle.texts.proofs.Equal.{is_one_of}
use Rattle.texts.proofs.parts.one_of.Goals as goal

pub returns : goal.returns
returns c =
    any_from_yields_List (λ n. eqb n c.args.b) _ _ c.any.result c.any.ensures.ran (YieldsList-from_slice c.args.letters.now cc) (λ x b q k. search (rules, tests))
    ∙ is_one_of c.args.letters.now c.args.b
