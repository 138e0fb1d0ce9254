-- `kpa::letters::word_of` meets its contract. The loop's invariant: the number of all letters is `word`, read on with those that
-- are left, and `word` is below 256 to the power of those that are read.
-- Assumes nothing.
use Prim.Native.Nat.{◌^◌, ◌<◌}
use mathlib.Core.Path.{◌≡◌}
use mathlib.Core.List.{map}
use lib.ListN.{drop}
use Rattle.rules.specs.Messages.{capital, word_from, word}
use Rattle.kpa.proofs.letters.word_of.Given as goal

abbrev pub invariant-loop-b : goal.invariant-loop-b
invariant-loop-b l = (word (map capital l.letters) ≡ word_from l.word (map capital (drop l.b-index l.letters))) × (l.word < 256 ^ l.b-index)
