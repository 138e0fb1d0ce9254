-- What a search gives that lays the row of what it finds, in the words of the rules.
use Rattle.std.specs.Prelude.{ℕ, max, ◌+◌, ◌-◌, ◌≤◌, ◌≡◌, true, List, ℤ, length, Some, None}
use Rattle.rules.specs.Answers.{replies}
use Rattle.stream_rules.specs.Streams.{wrap}
use Rattle.spe.specs.Ends.{begins_report}
use Rattle.rows.specs.Rows.{more_row, longest_row, row, row_without, front}
use Rattle.stream_rules.specs.declared.Reader.{Reader}
use Rattle.search.specs.Sought.{sought_in}
use Rattle.search.specs.declared.Sought.{Sought}
use Rattle.search.specs.declared.Sought.TheVariants.{Ready, Waiting}
use Rattle.search.specs.declared.Stop.{Stop}

-- a report begins at the first byte, of family 1
abbrev pub ReportBegun : ℕ → List ℕ → Type 0
ReportBegun family bs = (family ≡ replies) × (begins_report bs ≡ true)

-- What was sought in so many bytes, of which the first were held: where it is, and its row. A call takes the bytes up to those
-- that settled a frame and the starts before it, and not fewer than were held; or all of them.
abbrev pub stop_of : ℕ → ℕ → Sought → Stop
stop_of all count (Ready hit) = record { at = hit.start; length = Some hit.length; reach = max hit.reach count }
stop_of all count (Waiting from) = record { at = from; length = None; reach = all }

abbrev pub row_of : Reader → ℕ → Sought → List ℤ
row_of r all (Ready hit) =
    row (max hit.reach r.count - r.count) (wrap (r.at + hit.start)) (wrap (r.skipped + hit.start)) hit.length hit.frame
row_of r all (Waiting from) = row_without more_row (all - r.count)

pub record LaysSought (r : Reader) (all : ℕ) (sought : Sought) (numbers : List ℤ) (stop : Stop) (after : List ℤ) : Type 0 where
  pub found : stop ≡ stop_of all r.count sought
  pub laid : after ≡ front (row_of r all sought) numbers

-- Such a search asks that there are as many bytes as were held, and room for every row.
pub record RoomToSeek (r : Reader) (bs : List ℕ) (numbers : List ℤ) : Type 0 where
  pub there : r.count ≤ length bs
  pub row : longest_row ≤ length numbers

-- What it gives.
abbrev pub SeeksRow : Reader → List ℕ → List ℤ → Stop → List ℤ → Type 0
SeeksRow r bs numbers stop after = LaysSought r (length bs) (sought_in r.family bs) numbers stop after
