-- The promise of a call on a lent reader leaves one answer and one reader, and that of a call on a reader's parts one answer,
-- one set of counts and one content of the held places: two results that meet it are equal. Assumes nothing.
use mathlib.Core.Path.{◌≡◌, ap}
use mathlib.Core.List.{List}
use Prim.Native.Nat.{ℕ}
use Rattle.stream_rules.specs.Streams.{Feeds}
use Rattle.std.specs.Prelude.{Result}
use Rattle.rules.specs.declared.Refusal.{Refusal}
use Rattle.stream_rules.specs.declared.Progress.{Progress}
use Rattle.stream_rules.specs.declared.Fed.{Fed}
use Rattle.stream_rules.specs.declared.Reader.{Reader}
use Rattle.stream_laws.proofs.Single.{fed_single}
use Rattle.held_bytes.specs.declared.parts.Moved.{Moved}
use Rattle.held_bytes.specs.Moves.{fed_at}
use Rattle.held_bytes.specs.Places.{reader_at, fed_parts, FeedsPlaces}

pub places_single : (r : Reader) (offered : List ℕ) (x y : Reader) (a b : Result Progress Refusal) → Feeds r offered (fed_at x a) → Feeds r offered (fed_at y b)
    → (a ≡ b) × (x ≡ y)
places_single r offered x y a b p q =
    let same = fed_single r offered _ _ p q in
    (ap (λ (f : Fed). f.answer) same, ap (λ (f : Fed). f.reader) same)

-- what a call left beside the places
abbrev parts : Fed → Moved
parts f = record { count = f.reader.count; at = f.reader.at; skipped = f.reader.skipped; answer = f.answer }

pub parts_single : (family closed count : ℕ) (held : List ℕ) (at skipped : ℕ) (offered x y : List ℕ) (m n : Moved)
    → FeedsPlaces family closed count held at skipped offered x m → FeedsPlaces family closed count held at skipped offered y n
    → (m ≡ n) × (x ≡ y)
parts_single family closed count held at skipped offered x y m n p q =
    let same : fed_parts family closed x m ≡ fed_parts family closed y n = fed_single (reader_at family closed count held at skipped) offered _ _ p q in
    (ap parts same, ap (λ (f : Fed). f.reader.held) same)
