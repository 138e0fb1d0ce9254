-- `kpa::are_body_bytes` meets its contract: the library's test of each is the rules'. Assumes nothing.
use Rattle.std.proofs.Common.{◌∙◌, rules, tests}
use Rattle.std.proofs.lemmas.Iterator.{YieldsList-from_slice}
use Rattle.std.proofs.lemmas.Iterator.Search.{all_from_yields_List}
use Rattle.rules.specs.Messages.{is_body_byte}
use Rattle.kpa.proofs.Frames.{every_all}
use Rattle.kpa.proofs.are_body_bytes.Goals as goal

pub returns : goal.returns
unfolding is_body_byte
returns c =
    all_from_yields_List is_body_byte _ _ c.all.result c.all.ensures.ran (YieldsList-from_slice c.args.body.now cc) (λ x b q k. search (rules, tests))
    ∙ every_all is_body_byte c.args.body.now
