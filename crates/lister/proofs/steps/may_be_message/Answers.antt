-- `lister::steps::may_be_message` meets its contract: what fails its tests is no good message.
-- Assumes nothing.
use mathlib.Core.Path.{sym, ◌∙◌}
use Rattle.lister.proofs.GoodLengths.{length_none, too_short}
use Rattle.lister.proofs.Bodies.{not_letter}
use Rattle.lister.proofs.steps.may_be_message.Goals as goal

pub returns-then-s-lt-SHORTEST_MESSAGE : goal.returns-then-s-lt-SHORTEST_MESSAGE
returns-then-s-lt-SHORTEST_MESSAGE c = λ e. length_none 4 _ (too_short 4 _ c.if-s-lt-SHORTEST_MESSAGE.true)

pub returns : goal.returns
returns c = λ e. length_none 4 _ (not_letter _ (sym c.is_letter.ensures ∙ e))
