-- A call that offers bytes, and the row of what it answers.
use Rattle.std.specs.Prelude.{ℕ, ◌≡◌, cond, List, eqb, ℤ}
use Rattle.stream_rules.specs.Streams.{fed, said_to_feed}
use Rattle.stream_rules.specs.declared.Reader.{Reader}
use Rattle.rows.specs.Rows.{row_fed, Lays}

-- Where its number is not 0, for a refusal of the stream or because the row has no room, the reader is as it was: nothing is
-- fed.
pub record FeedsRow (reader : Reader) (offered : List ℕ) (numbers : List ℤ) (result : ℕ) (after : Reader) (left : List ℤ) : Type 0 where
  pub lays : Lays (said_to_feed (fed reader offered).answer) (row_fed (fed reader offered).answer) numbers result left
  pub leaves : after ≡ cond (eqb result 0) (fed reader offered).reader reader
