-- What is left to show of `alpha::numbered::read02`: a row of thirteen decimal fields with nothing behind it is what the
-- rules ask of the texts, and its numbers are the record's. Assumes nothing.
use Rattle.std.proofs.Common.{◌≡◌, sym, ◌∙◌, ap, rules}
use Rattle.rules.specs.Sentences.{behind_commas, is02, in_range02}
use Rattle.rules.specs.declared.Frame.TheVariants.{Apa02}
use Rattle.alpha.proofs.Sentences.{refused, accepted, no_row02, more02, is_row02, record02}
use Rattle.alpha.proofs.numbered.read02.Goals as goal
use Rattle.alpha.proofs.numbered.read02.Goals.{After-in_range02}

-- past the tests of the row
in_range : (c : After-in_range02) → is02 (behind_commas c.args.r.now) ≡ c.in_range02.result
in_range c =
    is_row02 c.in-Some.ensures (search rules)
    ∙ ap in_range02 (sym (record02 c.in-Some.ensures))
    ∙ sym c.in_range02.ensures

pub returns-in_default : goal.returns-in_default
returns-in_default c = refused _ (no_row02 _ (rw c.in_default.is at c.row.ensures))

pub returns-then-not-is_empty : goal.returns-then-not-is_empty
returns-then-not-is_empty c = refused _ (more02 c.in-Some.ensures (search rules))

pub returns-then-not-in_range02 : goal.returns-then-not-in_range02
returns-then-not-in_range02 c = refused _ (in_range (goal.at.returns-then-not-in_range02 c).After-in_range02 ∙ c.if-not-in_range02.true)

pub returns : goal.returns
returns c = accepted (in_range (goal.at.returns c).After-in_range02 ∙ c.if-not-in_range02.false) (ap Apa02 (record02 c.in-Some.ensures))
