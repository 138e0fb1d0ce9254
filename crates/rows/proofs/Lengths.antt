-- How long a row is: no frame's row is longer than that of a status report, 27 numbers; so where that many are lent,
-- every row has room.
-- Assumes nothing.
use Prim.Native.Nat.{ℕ, ◌≤◌}
use mathlib.Core.Path.{◌≡◌}
use mathlib.Core.List.{List}
use native.Mathlib.Omega.{arith}
use borrow.Author.Tests.{le-leb}
use lib.IntN.{ℤ}
use lib.ListN.{length, length-append}
use Rattle.rules.specs.Answers.{kind_of, values}
use Rattle.rules.specs.declared.Frame.{Frame}
use Rattle.records.proofs.Places.{few_values}
use Rattle.rows.specs.Rows.{longest_row, kind_row, code_of, heading, row, row_number}

pub row_fits : (taken start skipped n : ℕ) (f : Frame) → length (row taken start skipped n f) ≤ longest_row
row_fits taken start skipped n f =
    omega (arith, length-append (heading (kind_row (kind_of f)) (code_of (kind_of f)) taken start skipped n) (values f), few_values f)

-- with so many numbers lent, only a refusal has another number than 0
pub room : (r numbers : List ℤ) → length r ≤ longest_row → longest_row ≤ length numbers → row_number r numbers ≡ 0
room r numbers short long = rw (le-leb (length r) (length numbers) (omega (arith, short, long)))
