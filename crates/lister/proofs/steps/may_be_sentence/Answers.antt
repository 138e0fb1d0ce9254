-- `lister::steps::may_be_sentence` meets its contract: what fails its tests is no good sentence.
-- Assumes nothing.
use borrow.Author.Tests.{leb-false}
use Rattle.lister.proofs.GoodLengths.{length_none, too_short}
use Rattle.lister.proofs.Names.{no_letter, no_digit}
use Rattle.lister.proofs.steps.may_be_sentence.Goals as goal

pub returns-then-s-lt-SHORTEST_SENTENCE : goal.returns-then-s-lt-SHORTEST_SENTENCE
returns-then-s-lt-SHORTEST_SENTENCE c = λ e. length_none 2 _ (too_short 2 _ c.if-s-lt-SHORTEST_SENTENCE.true)

pub returns-then-s-ne65 : goal.returns-then-s-ne65
returns-then-s-ne65 c = λ e. length_none 2 _ (no_letter _ c.if-s-ne65.true)

pub returns : goal.returns
returns c = λ e. length_none 2 _ (no_digit _ (leb-false _ _ e))
