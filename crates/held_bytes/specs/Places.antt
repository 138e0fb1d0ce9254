-- A call on a reader that comes in its parts, the held places lent.
use Rattle.std.specs.Prelude.{ℕ, List}
use Rattle.stream_rules.specs.Streams.{Feeds}
use Rattle.stream_rules.specs.declared.Reader.{Reader}
use Rattle.stream_rules.specs.declared.Fed.{Fed}
use Rattle.held_bytes.specs.declared.parts.Moved.{Moved}
use Rattle.held_bytes.specs.Moves.{fed_at}

-- the reader of these parts, and what a call that left these places, counts and answer gives back
abbrev pub reader_at : ℕ → ℕ → ℕ → List ℕ → ℕ → ℕ → Reader
reader_at family closed count held at skipped = record {
  family = family;
  closed = closed;
  count = count;
  held = held;
  at = at;
  skipped = skipped;
}

abbrev pub fed_parts : ℕ → ℕ → List ℕ → Moved → Fed
fed_parts family closed held m = fed_at (reader_at family closed m.count held m.at m.skipped) m.answer

-- It is the call on that reader.
abbrev pub FeedsPlaces : ℕ → ℕ → ℕ → List ℕ → ℕ → ℕ → List ℕ → List ℕ → Moved → Type 0
FeedsPlaces family closed count held at skipped offered left m =
    Feeds (reader_at family closed count held at skipped) offered (fed_parts family closed left m)
