-- What a C program has of a row beside its kind: its code and its values, how many these are, and of which family the frame is. And
-- demand 2 over `amp_write` and `amp_read`.
use Rattle.std.specs.Prelude.{ℕ, ◌≤◌, ◌≡◌, ◌||◌, cond, List, eqb, ℤ, pos, length, take, drop, get_or}
use Rattle.rules.specs.Answers.{replies, sentences, commands, messages, status_values, allowed, bytes_of, kind_of, not_allowed}
use Rattle.rules.specs.Messages.{behind}
use Rattle.rules.specs.declared.Behind.{Behind}
use Rattle.rules.specs.declared.Behind.TheVariants.{ANumber, AVersion, AClock, Alone, Anything}
use Rattle.rules.specs.declared.Frame.{Frame}
use Rattle.rows.specs.Rows.{ack_row, status_row, command_row, sentence_row, response_row, other_row, heading_length, longest_row}
use Rattle.row_writer.specs.Given.{WritesNumbers, WritesGiven}
use Rattle.amp.specs.Boundary.{ReadsRow}
use Rattle.boundary.specs.RowSessions.{row_kind}

-- Its second number is the code. Its values stand behind the heading, and whatever stood in the lent numbers behind them.
abbrev pub row_code : List ℤ → ℤ
row_code numbers = get_or numbers 1 (pos 0)

abbrev pub row_values : List ℤ → List ℤ
row_values numbers = drop heading_length numbers

-- How many values a frame has, by its kind and its code: a status report 21; sentences 02, 03 and 05 the numbers of their records; a
-- response what may stand behind its letters; letters that are not listed ten numbers; all others none.
abbrev pub sentence_count : ℕ → ℕ
sentence_count n = cond (eqb n 2) 13 (cond (eqb n 3) 9 (cond (eqb n 5) 11 0))

abbrev pub behind_count : Behind → ℕ
behind_count (ANumber width limit) = 1
behind_count AVersion = 2
behind_count AClock = 6
behind_count Alone = 0
behind_count Anything = 0

unfoldable pub value_count : ℕ → ℕ → ℕ
value_count kind code =
    cond (eqb kind status_row) status_values
    (cond (eqb kind sentence_row) (sentence_count code)
    (cond (eqb kind response_row) (behind_count (behind code))
    (cond (eqb kind other_row) 10 0)))

-- the family that a frame of a kind is read in
unfoldable pub family_in : ℕ → ℕ
family_in kind =
    cond (eqb kind ack_row || eqb kind status_row) replies
    (cond (eqb kind sentence_row) sentences
    (cond (eqb kind command_row) commands
    messages))

-- A frame is written from a kind, a code and values, the call gives 0, and as many bytes as it tells are read with room for every row.
pub record WrittenRead (kind code : ℕ) (vs : List ℤ) (number : ℕ) (row : List ℤ) : Type 0 where
  pub out : List ℕ
  pub before : ℕ
  pub after : List ℕ
  pub told : ℕ
  pub writes : WritesGiven kind code vs out before 0 after told
  pub numbers : List ℤ
  pub room : longest_row ≤ length numbers
  pub reads : ReadsRow (family_in kind) (take told after) numbers number row

-- Then the reading gives 0 and the row has the same kind, code and values. A status report has no code, and what was given for it is
-- not looked at; nor are values behind those of the kind.
pub record ReadsBack (kind code : ℕ) (vs : List ℤ) (number : ℕ) (row : List ℤ) : Type 0 where
  pub accepted : number ≡ 0
  pub same_kind : row_kind row ≡ pos kind
  pub same_code : row_code row ≡ pos (cond (eqb kind status_row) 0 code)
  pub enough : value_count kind code ≤ length vs
  pub same_values : take (value_count kind code) (row_values row) ≡ take (value_count kind code) vs

-- A writer's call that answers and leaves what one of this frame's record does.
abbrev pub WritesRecord : Frame → List ℕ → ℕ → ℕ → List ℕ → ℕ → Type 0
WritesRecord f = WritesNumbers (allowed f) (not_allowed (kind_of f)) (bytes_of f)
