-- Demand 3 as a C program has it: sessions over whatever meets the promises of `amp_fresh`, `amp_feed` and `amp_close`, with
-- room for every row.
use Rattle.std.specs.Prelude.{ℕ, ◌≤◌, ◌<◌, ◌^◌, ◌≡◌, true, List, [], ◌∷◌, eqb, ℤ, pos, nat_abs, length, take, drop, get_or}
use Rattle.rules.specs.declared.Refusal.{Refusal}
use Rattle.stream_rules.specs.declared.Progress.{Progress}
use Rattle.std.specs.Prelude.{Result}
use Rattle.rules.specs.Bytes.{every}
use Rattle.stream_rules.specs.declared.Reader.{Reader}
use Rattle.stream_laws.specs.Sessions.{Demand3}
use Rattle.rows.specs.Rows.{longest_row, done_row, row_fed}
use Rattle.row_stream.specs.FedRows.{FeedsRow}
use Rattle.amp.specs.Boundary.{Closes}

-- What a program takes from a row: its kind is the first number, and how many bytes were taken the third.
abbrev pub row_kind : List ℤ → ℤ
row_kind numbers = get_or numbers 0 (pos 0)

abbrev pub row_taken : List ℤ → ℕ
row_taken numbers = nat_abs (get_or numbers 2 (pos 0))

-- No slice that C lends has more bytes.
abbrev pub most_lent : ℕ
most_lent = 2 ^ 63

-- A call of `amp_feed` with room for every row: what it gives back, the reader that it leaves, and its row.
pub record RowCall (r : Reader) (offered : List ℕ) (number : ℕ) (after : Reader) (row : List ℤ) : Type 0 where
  pub numbers : List ℤ
  pub room : longest_row ≤ length numbers
  pub lent : length offered < most_lent
  pub feeds : FeedsRow r offered numbers number after row

-- After the close: calls that offer nothing, at least until a row says done. The lists are the numbers that the functions gave
-- back and the rows, in order.
pub data RowDraining : Reader → List ℕ → List (List ℤ) → Type 0 where
  calls : {r : Reader} {numbers : List ℕ} {rows : List (List ℤ)} (number : ℕ) (after : Reader) (row : List ℤ) → RowCall r [] number after row
      → RowDraining after numbers rows → RowDraining r (number ∷ numbers) (row ∷ rows)
  closes_again : {r : Reader} {numbers : List ℕ} {rows : List (List ℤ)} (number : ℕ) (after : Reader) → Closes r number after
      → RowDraining after numbers rows → RowDraining r (number ∷ numbers) rows
  ends : {r : Reader} (number : ℕ) (after : Reader) (row : List ℤ) → RowCall r [] number after row
      → row_kind row ≡ pos done_row → RowDraining r (number ∷ []) (row ∷ [])

-- From a reader and what is left of the stream: calls, each of which offers a number of bytes of what is left, or all of
-- them if there are fewer, and whatever its row does not say to be taken is left; then, when nothing is left, the close.
pub data RowSession : Reader → List ℕ → List ℕ → List ℕ → List (List ℤ) → Type 0 where
  calls : {r : Reader} {left lengths numbers : List ℕ} {rows : List (List ℤ)} (n number : ℕ) (after : Reader) (row : List ℤ)
      → RowCall r (take n left) number after row
      → RowSession after (drop (row_taken row) left) lengths numbers rows
      → RowSession r left (n ∷ lengths) (number ∷ numbers) (row ∷ rows)
  closes : {r : Reader} {numbers : List ℕ} {rows : List (List ℤ)} (number : ℕ) (after : Reader) → Closes r number after
      → RowDraining after numbers rows → RowSession r [] [] (number ∷ numbers) rows

-- rows that begin with those of the answers, one for each
abbrev pub RowsOf : List (Result Progress Refusal) → List (List ℤ) → Type 0
RowsOf [] [] = Unit {0}
RowsOf [] (row ∷ rows) = ⊥
RowsOf (a ∷ answers) [] = ⊥
RowsOf (a ∷ answers) (row ∷ rows) = (take (length (row_fed a)) row ≡ row_fed a) × RowsOf answers rows

-- Demand 3 for a C program: no function gives a number but 0, and the rows are those of answers that tell the frames which the
-- rule finds in the whole stream.
pub record RowDemand3 (family : ℕ) (stream numbers : List ℕ) (rows : List (List ℤ)) : Type 0 where
  pub none_refused : every (eqb 0) numbers ≡ true
  pub answers : List (Result Progress Refusal)
  pub tells : Demand3 family stream answers
  pub shown : RowsOf answers rows
