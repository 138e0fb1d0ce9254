-- `kpa::letters::letter_run` meets its contract: the run ends at the first byte that is no letter. Assumes nothing.
use Rattle.std.proofs.Common.{◌≡◌, rules, tests, ◌∙◌}
use Rattle.std.specs.List.{position}
use Rattle.std.proofs.lemmas.Iterator.{YieldsList-from_slice}
use Rattle.std.proofs.lemmas.Iterator.Search.{position_from_yields_List}
use Rattle.kpa.proofs.Words.{no_letter, run_position}
use Rattle.kpa.proofs.letters.letter_run.Goals as goal

pub returns : goal.returns
returns c =
    let found : c.position.result ≡ position no_letter c.args.s.now =
    position_from_yields_List no_letter _ _ c.position.result c.position.ensures.ran (YieldsList-from_slice c.args.s.now cc) (λ x b q k. search (rules, tests)) in
    c.unwrap_or.ensures ∙ rw found (run_position c.args.s.now)
