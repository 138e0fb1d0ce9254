-- What the short ways ask, and what they answer.
use Rattle.std.specs.Prelude.{ℕ, ◌+◌, ◌≤◌, ◌<◌, ◌≡◌, Bool, true, false, List, ℤ, length}
use Rattle.rules.specs.Answers.{is_family}
use Rattle.stream_rules.specs.Heads.{longest}
use Rattle.stream_rules.specs.Streams.{place_count}
use Rattle.stream_rules.specs.declared.Reader.{Reader}
use Rattle.rows.specs.Rows.{longest_row}
use Rattle.row_stream.specs.FedRows.{FeedsRow}

-- The reader is open, and there is room for every row.
pub record IsPlain (r : Reader) (numbers : List ℤ) : Type 0 where
  pub opened : r.closed ≡ 0
  pub row : longest_row ≤ length numbers

-- A reader of the family may hold so many bytes, and the places have room for the others behind them.
pub record IsFew (r : Reader) (others : ℕ) : Type 0 where
  pub a_family : is_family r.family ≡ true
  pub low : r.count < longest r.family
  pub behind : r.count + others ≤ place_count

-- A frame at the front of what is offered to a reader that holds nothing has been handed out, or else nothing is changed.
pub record FrontRow (r : Reader) (offered : List ℕ) (numbers : List ℤ) (told : Bool) (after : Reader) (left : List ℤ) : Type 0 where
  pub none : told ≡ false → (after ≡ r) × (left ≡ numbers)
  pub handed : told ≡ true → FeedsRow r offered numbers 0 after left
