-- The texts that show a part of a capture: the kind of the frame that it is, or its refusal.
use Rattle.std.specs.Prelude.{ℕ, List, Err, Ok}
use Rattle.rules.specs.Answers.{Read, read_one, kind_of}
use Rattle.rules.specs.Refusals.{number_for}
use Rattle.lines.specs.Lines.{refused_texts}
use Rattle.listings.specs.Kinds.{kind_texts}

abbrev pub reading_texts : Read → List (List ℕ)
reading_texts (Ok f) = kind_texts (kind_of f)
reading_texts (Err e) = refused_texts (number_for e)

abbrev pub part_texts : ℕ → List ℕ → List (List ℕ)
part_texts family bytes = reading_texts (read_one family bytes)
