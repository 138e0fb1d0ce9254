-- A frame that is read from its bytes and laid as a row.
use Rattle.std.specs.Prelude.{ℕ, List, ℤ, Result, length}
use Rattle.rules.specs.declared.Refusal.{Refusal}
use Rattle.rules.specs.Answers.{said, read_one}
use Rattle.rows.specs.Rows.{row_at, outcome_number, Lays, LentNumbers}
use Rattle.rows.specs.declared.laying.Arrival.{Arrival}

-- The row is that of what the reader of one frame answers, with the bytes taken, the start and the bytes skipped as they are given.
abbrev pub ReadsRowAt : ℕ → List ℕ → ℕ → ℕ → ℕ → List ℤ → ℕ → List ℤ → Type 0
ReadsRowAt family bytes taken start skipped numbers result after =
    Lays (said (read_one family bytes)) (row_at taken start skipped (length bytes) (read_one family bytes)) numbers result after

-- The same in lent numbers, by an outcome.
abbrev pub ReadIn : LentNumbers → Result Unit Refusal → ℕ → List ℕ → Arrival → Type 0
ReadIn numbers result family bytes a =
    ReadsRowAt family bytes a.taken a.start a.skipped numbers.entry.now (outcome_number result) numbers.exit.now
