-- `texts::commas::to_comma` meets its contract. Assumes nothing.
use Rattle.std.proofs.Common.{◌≡◌, ℕ, ◌+◌, ◌-◌, eqb, take, drop, length, ◌∙◌, ap, rules, tests}
use Rattle.std.specs.List.{position}
use Rattle.std.proofs.lemmas.Iterator.{YieldsList-from_slice}
use Rattle.std.proofs.lemmas.Iterator.Search.{position_from_yields_List}
use Rattle.texts.proofs.FieldEnds.{first_place, from_place}
use Rattle.texts.proofs.commas.to_comma.Goals as goal

pub returns : goal.returns
returns c =
    let rest = take (length c.args.s.now - c.min.result) (drop c.min.result c.args.s.now) in
    let found : c.position.result ≡ position (λ b. eqb b 44) rest =
    position_from_yields_List (λ b. eqb b 44) _ _ c.position.result c.position.ensures.ran (YieldsList-from_slice rest c.iter.ensures.rest) (λ x b q k. search (rules, tests)) in
    ap (λ (n : ℕ). c.args.a + n)
    (c.unwrap_or.ensures ∙ rw (found, c.min.ensures, from_place c.args.a c.args.s.now) (first_place (drop c.args.a c.args.s.now)))
