-- The first six numbers of a row, of what the code holds them in.
use Rattle.std.specs.Prelude.{ℕ, List, ℤ}
use Rattle.rows.specs.Rows.{heading}
use Rattle.rows.specs.declared.laying.Heading.{Heading}

abbrev pub heading_of : Heading → List ℤ
heading_of h = heading h.kind h.code h.arrival.taken h.arrival.start h.arrival.skipped h.length

-- without a frame
abbrev pub heading_without : ℕ → ℕ → Heading
heading_without kind taken = record { kind = kind; code = 0; arrival = record { taken = taken; start = 0; skipped = 0 }; length = 0 }
