-- A frame, and what a call answers, as a row of numbers in lent memory: what a C program is handed. A row is its kind, its
-- code, the bytes taken, the frame's start, the bytes skipped and its length, and behind these six the frame's values.
use Rattle.std.specs.Prelude.{ℕ, ◌+◌, ◌%◌, ◌^◌, ◌≡◌, cond, List, [], ◌∷◌, ◌++◌, eqb, leb, ℤ, pos, length, drop}
use Rattle.rules.specs.Answers.{Read}
use Rattle.rules.specs.declared.Refusal.{Refusal}
use Rattle.stream_rules.specs.Streams.{said_to_feed, said_to_turn}
use Rattle.stream_rules.specs.declared.Progress.{Progress}
use Rattle.stream_rules.specs.declared.Progress.TheVariants.{Done, More, Ready}
use Rattle.rules.specs.Refusals.{no_room}
use Rattle.std.specs.Prelude.{Err, Ok, Result}
use Rattle.std.specs.Borrow.{MutBor}
use denote.Triple.Both.{Both}
use Rattle.rules.specs.Answers.{Says, no, yes, kind_of, status_values, values}
use Rattle.rules.specs.declared.Frame.{Frame}
use Rattle.rules.specs.declared.Kind.{Kind}
use Rattle.rules.specs.declared.Kind.TheVariants.{OfAck, OfStatus, OfCommand, OfSentence, OfQuestion, OfResponse, OfLetters}

-- The first number of a row says what it is.
abbrev pub ack_row : ℕ
ack_row = 1

abbrev pub status_row : ℕ
status_row = 2

abbrev pub command_row : ℕ
command_row = 3

abbrev pub sentence_row : ℕ
sentence_row = 4

abbrev pub more_row : ℕ
more_row = 5

abbrev pub done_row : ℕ
done_row = 6

abbrev pub question_row : ℕ
question_row = 7

abbrev pub response_row : ℕ
response_row = 8

abbrev pub other_row : ℕ
other_row = 9

-- the numbers before a frame's values, and those of the longest row, a status report's
abbrev pub heading_length : ℕ
heading_length = 6

abbrev pub longest_row : ℕ
longest_row = heading_length + status_values

abbrev pub kind_row : Kind → ℕ
kind_row (OfAck c) = ack_row
kind_row OfStatus = status_row
kind_row (OfCommand c) = command_row
kind_row (OfSentence n) = sentence_row
kind_row (OfQuestion letters) = question_row
kind_row (OfResponse letters) = response_row
kind_row (OfLetters w) = other_row

-- the code of an acknowledgement or a command, the number of a sentence, the letters of a question or a response, which are a
-- number too; a status report has none of these, and letters that are not listed stand among the values
abbrev pub code_of : Kind → ℕ
code_of (OfAck c) = c
code_of OfStatus = 0
code_of (OfCommand c) = c
code_of (OfSentence n) = n
code_of (OfQuestion letters) = letters
code_of (OfResponse letters) = letters
code_of (OfLetters w) = 0

-- Counts are laid modulo 2^63: nothing that C can lend is that long.
abbrev pub counted : ℕ → ℤ
counted n = pos (n % 2 ^ 63)

-- the six numbers in front of the values
abbrev pub heading : ℕ → ℕ → ℕ → ℕ → ℕ → ℕ → List ℤ
heading kind code taken start skipped length = pos kind ∷ pos code ∷ counted taken ∷ pos start ∷ pos skipped ∷ counted length ∷ []

abbrev pub row : ℕ → ℕ → ℕ → ℕ → Frame → List ℤ
row taken start skipped length f = heading (kind_row (kind_of f)) (code_of (kind_of f)) taken start skipped length ++ values f

-- without a frame
abbrev pub row_without : ℕ → ℕ → List ℤ
row_without kind taken = heading kind 0 taken 0 0 0

abbrev pub row_fed : (Result Progress Refusal) → List ℤ
row_fed (Ok (Ready r)) = row r.taken r.start r.skipped r.length r.frame
row_fed (Ok (More n)) = row_without more_row n
row_fed (Ok (Done n)) = row_without done_row n
row_fed (Err n) = []

-- of what the reader of one frame answers, with the bytes taken, the start, the bytes skipped and the length of such a frame
abbrev pub row_at : ℕ → ℕ → ℕ → ℕ → Read → List ℤ
row_at taken start skipped length (Ok f) = row taken start skipped length f
row_at taken start skipped length (Err n) = []

-- of a frame that is read alone, its length is that of the bytes
abbrev pub row_read : ℕ → Read → List ℤ
row_read length reading = row_at 0 0 0 length reading

-- the number for no, and 0 for yes
abbrev pub refusal_of : Says → ℕ
refusal_of (no n) = n
refusal_of (yes kind vs) = 0

-- The number of an outcome: its refusal's, or 0.
abbrev pub outcome_number : Result Unit Refusal → ℕ
outcome_number outcome = refusal_of (said_to_turn outcome)

-- A row stands at the front of the numbers; those behind it are unchanged.
unfoldable pub front : List ℤ → List ℤ → List ℤ
front r numbers = r ++ drop (length r) numbers

-- The number that is given: refusal 4 where the row is longer than the lent numbers, else 0. An answer that is a refusal
-- gives its own number, whatever is lent.
abbrev pub row_number : List ℤ → List ℤ → ℕ
row_number r numbers = cond (leb (length r) (length numbers)) 0 no_room

abbrev pub laid_number : Says → List ℤ → List ℤ → ℕ
laid_number (no n) r numbers = n
laid_number (yes kind vs) r numbers = row_number r numbers

-- Where that number is 0 the row stands at the front; else all numbers are unchanged.
abbrev pub laid_content : List ℤ → List ℤ → ℕ → List ℤ
laid_content r numbers result = cond (eqb result 0) (front r numbers) numbers

-- A row is laid.
pub record LaysRow (r numbers : List ℤ) (result : ℕ) (after : List ℤ) : Type 0 where
  pub answers : result ≡ row_number r numbers
  pub content : after ≡ laid_content r numbers result

-- An answer is laid, by its row; a refusal has none.
pub record Lays (answer : Says) (r numbers : List ℤ) (result : ℕ) (after : List ℤ) : Type 0 where
  pub answers : result ≡ laid_number answer r numbers
  pub content : after ≡ laid_content r numbers result

-- Numbers that are lent to a function: as they are passed, and as they are left. And the same of a row and of an answer
-- in lent numbers, by an outcome.
abbrev pub LentNumbers : Type 0
LentNumbers = Both (MutBor (List ℤ)) (MutBor (List ℤ))

abbrev pub RowIn : LentNumbers → Result Unit Refusal → List ℤ → Type 0
RowIn numbers result r = LaysRow r numbers.entry.now (outcome_number result) numbers.exit.now

abbrev pub AnswerIn : LentNumbers → Result Unit Refusal → Says → List ℤ → Type 0
AnswerIn numbers result answer r = Lays answer r numbers.entry.now (outcome_number result) numbers.exit.now

-- The same of refusals of any type, by the number of each: what an answer says, its row, and the number of an outcome. Of the
-- eight refusals these are the three above, proofs/AnyRefusals.antt.
abbrev pub said_by : {E : Type 0} → (E → ℕ) → Result Progress E → Says
said_by number (Ok progress) = said_to_feed (Ok progress)
said_by number (Err e) = no (number e)

abbrev pub row_by : {E : Type 0} → Result Progress E → List ℤ
row_by (Ok progress) = row_fed (Ok progress)
row_by (Err e) = []

abbrev pub number_by : {E : Type 0} → (E → ℕ) → Result Unit E → ℕ
number_by number (Ok u) = 0
number_by number (Err e) = number e

abbrev pub AnswerBy : {E : Type 0} → (E → ℕ) → LentNumbers → Result Unit E → Result Progress E → Type 0
AnswerBy number numbers result answer = Lays (said_by number answer) (row_by answer) numbers.entry.now (number_by number result) numbers.exit.now
