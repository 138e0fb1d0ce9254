-- The loop of `listings::kinds::words`: what is left to be typed makes the line that all letters make.
-- Assumes nothing.
use Rattle.std.proofs.Common.{drop, map}
use Rattle.rules.specs.Messages.{word_letters}
use Rattle.lines.proofs.Typed.{LineLeft}
use Rattle.listings.proofs.kinds.words.Given as goal

abbrev pub invariant-loop-letters : goal.invariant-loop-letters
invariant-loop-letters l = LineLeft (map word_letters (drop l.letters-index l.numbers)) l.line (map word_letters l.numbers) l.initial.line
