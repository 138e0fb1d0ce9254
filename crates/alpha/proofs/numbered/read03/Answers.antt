-- What is left to show of `alpha::numbered::read03`: a row of eight decimal fields, a temperature and nothing behind it is
-- what the rules ask of the texts, and their values are the record's. Assumes nothing.
use Rattle.std.proofs.Common.{◌≡◌, sym, ◌∙◌, ap, rules}
use mir.Syntax.{w32}
use mir.Val.{of_z, to_z}
use mir.ValLaws.{to_z-of_z}
use Rattle.rules.specs.Sentences.{behind_commas, is03, in_range03}
use Rattle.rules.specs.declared.Frame.TheVariants.{Apa03}
use Rattle.alpha.proofs.Sentences.{refused, accepted, no_row03, no_last03, more03, is_row03, record03}
use Rattle.alpha.proofs.numbered.read03.Goals as goal
use Rattle.alpha.proofs.numbered.read03.Goals.{After-in_range03}

-- the temperature is kept as it was read
kept : (c : After-in_range03) → to_z w32 (of_z w32 c.in-Some-degrees.temp) ≡ c.in-Some-degrees.temp
kept c = to_z-of_z w32 c.in-Some-degrees.temp (search rules)

-- past the tests of the row
in_range : (c : After-in_range03) → is03 (behind_commas c.args.r.now) ≡ c.in_range03.result
in_range c =
    is_row03 c.in-Some.ensures c.in-Some-degrees.ensures (search rules)
    ∙ ap in_range03 (sym (record03 c.in-Some.ensures c.in-Some-degrees.ensures (kept c)))
    ∙ sym c.in_range03.ensures

pub returns-in_default : goal.returns-in_default
returns-in_default c = refused _ (no_row03 _ (rw c.in_default.is at c.row.ensures))

pub returns-in_default-degrees : goal.returns-in_default-degrees
returns-in_default-degrees c = refused _ (no_last03 c.in-Some.ensures c.in_default-degrees.ensures)

pub returns-then-not-is_empty : goal.returns-then-not-is_empty
returns-then-not-is_empty c = refused _ (more03 c.in-Some.ensures c.in-Some-degrees.ensures (search rules))

pub returns-then-not-in_range03 : goal.returns-then-not-in_range03
returns-then-not-in_range03 c = refused _ (in_range (goal.at.returns-then-not-in_range03 c).After-in_range03 ∙ c.if-not-in_range03.true)

pub returns : goal.returns
returns c =
    let past = (goal.at.returns c).After-in_range03 in
    accepted (in_range past ∙ c.if-not-in_range03.false) (ap Apa03 (record03 c.in-Some.ensures c.in-Some-degrees.ensures (kept past)))
