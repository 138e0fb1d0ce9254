-- What is left to show of `alpha::numbered::read05`: a row with nothing behind it is what the rules ask of the texts; a
-- shift by 4 divides by 16, and a mask of 15 leaves the remainder. Assumes nothing.
use Rattle.std.proofs.Common.{ap, rules}
use Rattle.rules.specs.declared.Frame.TheVariants.{Apa05}
use Rattle.alpha.proofs.Sentences.{refused, accepted, no_row05, more05, is_row05, record05}
use Rattle.alpha.proofs.numbered.read05.Goals as goal

pub returns-in_default : goal.returns-in_default
returns-in_default c = refused _ (no_row05 _ (rw c.in_default.is at c.row.ensures))

pub returns-then-not-is_empty : goal.returns-then-not-is_empty
returns-then-not-is_empty c = refused _ (more05 c.in-Some.ensures (search rules))

pub returns : goal.returns
returns c = accepted (is_row05 c.in-Some.ensures (search rules)) (ap Apa05 (record05 c.in-Some.ensures))
