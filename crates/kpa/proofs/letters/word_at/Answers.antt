-- `kpa::letters::word_at` meets its contract: the capitals of four letters are four of the capitals. Assumes nothing.
use mathlib.Core.Path.{◌∙◌}
use Rattle.std.proofs.lemmas.List.{take-map, drop-map}
use Rattle.kpa.proofs.letters.word_at.Goals as goal

pub returns : goal.returns
returns c = c.word_of.ensures ∙ rw c.text.ensures.content (simp (drop-map, take-map))
