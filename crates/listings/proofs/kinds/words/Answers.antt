-- `listings::kinds::words` meets its contract: each number's letters are typed in their turn, and behind the last number
-- nothing is left to be typed.
-- Assumes nothing.
use Rattle.rules.specs.Messages.{word_letters}
use Rattle.lines.proofs.Typed.{line_each_step, line_all_typed}
use Rattle.listings.proofs.kinds.words.Goals as goal

pub loop-letters-preserved : goal.loop-letters-preserved
loop-letters-preserved c = line_each_step word_letters c.loop-letters.letters-index _ c.loop-letters.invariant c.loop-letters-test.true c.word.ensures

pub returns : goal.returns
returns c = line_all_typed word_letters c.loop-letters.letters-index _ c.loop-letters.invariant c.loop-letters-test.false
