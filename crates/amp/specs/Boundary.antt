-- What a C program has of each exported function: the number that it gives back, and what stands in the memory that was lent
-- to it. Where that number is a refusal's, 0 is none. A family's number is as C passes it: one above 255 is no family, like
-- any other that is none.
use Rattle.std.specs.Prelude.{ℕ, ◌≡◌, cond, not, List, eqb, ℤ, length}
use Rattle.rules.specs.Answers.{is_family, read_one, said}
use Rattle.stream_rules.specs.Streams.{shut, fresh, said_to_turn}
use Rattle.stream_rules.specs.Lister.{listed, list_left, said_to_list}
use Rattle.stream_rules.specs.declared.Reader.{Reader}
use Rattle.stream_rules.specs.declared.Order.{Order}
use Rattle.stream_rules.specs.declared.Order.TheVariants.{Earlier, Later, Equal, CannotSay}
use Rattle.captures.specs.Finds.{start_of, length_of, next_in}
use Rattle.rows.specs.Rows.{row_read, refusal_of, Lays}
use Rattle.row_writer.specs.Given.{told_or}

-- A fresh reader; where there is no such family, the reader is as it was.
pub record Freshens (family : ℕ) (reader : Reader) (result : ℕ) (after : Reader) : Type 0 where
  pub answers : result ≡ refusal_of (said_to_turn (fresh family).outcome)
  pub leaves : after ≡ cond (is_family family) (fresh family).reader reader

-- Closing; the reader is as it was where it is refused.
pub record Closes (reader : Reader) (result : ℕ) (after : Reader) : Type 0 where
  pub answers : result ≡ refusal_of (said_to_turn (shut reader).outcome)
  pub leaves : after ≡ (shut reader).reader

-- One frame, as a row; its length is that of the bytes.
abbrev pub ReadsRow : ℕ → List ℕ → List ℤ → ℕ → List ℤ → Type 0
ReadsRow family bytes numbers result left = Lays (said (read_one family bytes)) (row_read (length bytes) (read_one family bytes)) numbers result left

-- The lister: how many starts it filled in stands in the lent count, which is as it was on a refusal.
pub record ListsStarts (family : ℕ) (capture starts : List ℕ) (count result : ℕ) (left : List ℕ) (counted : ℕ) : Type 0 where
  pub answers : result ≡ refusal_of (said_to_list (listed family capture starts))
  pub content : left ≡ list_left family capture starts
  pub counts : counted ≡ told_or count (listed family capture starts)

-- The next frame from a place on, or the next status report where reports is not 0: its length, and its start in the lent
-- number. Where there is none the length is 0, and the lent number is as it was.
pub record Nexts (family : ℕ) (capture : List ℕ) (place reports was length start : ℕ) : Type 0 where
  pub lengths : length ≡ length_of (next_in family capture place (not (eqb reports 0)))
  pub starts : start ≡ cond (eqb length 0) was (start_of (next_in family capture place (not (eqb reports 0))))

-- 1 is earlier, 2 later, 3 equal, and 4 that it can't be said
abbrev pub order_number : Order → ℕ
order_number Earlier = 1
order_number Later = 2
order_number Equal = 3
order_number CannotSay = 4
