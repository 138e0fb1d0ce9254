-- `starts::brackets::run_by_bytes` meets its contract: the run ends at the first byte that is no inner one. Assumes nothing.
use Rattle.std.proofs.Common.{◌≡◌, rules, tests, ◌∙◌}
use Rattle.std.specs.List.{position}
use Rattle.std.proofs.lemmas.Iterator.{YieldsList-from_slice}
use Rattle.std.proofs.lemmas.Iterator.Search.{position_from_yields_List}
use Rattle.starts.proofs.Blocks.{not_inner, run_position}
use Rattle.starts.proofs.brackets.run_by_bytes.Goals as goal

pub returns : goal.returns
returns c =
    let test = not_inner c.args.k in
    let found : c.position.result ≡ position test c.args.p.now =
    position_from_yields_List test _ _ c.position.result c.position.ensures.ran (YieldsList-from_slice c.args.p.now cc) (λ x b q k. search (rules, tests)) in
    c.unwrap_or.ensures ∙ rw found (run_position c.args.k c.args.p.now)
