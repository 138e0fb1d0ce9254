-- A row that is laid as its heading and the values behind it.
-- Assumes nothing.
use Prim.Native.Nat.{ℕ, ◌+◌, ◌≤◌}
use mathlib.Core.Path.{◌≡◌}
use mathlib.Core.List.{List, ◌++◌, append_assoc}
use native.Mathlib.Omega.{arith}
use lib.IntN.{ℤ}
use lib.ListN.{length, drop, length-append}
use lib.Seq.{drop-drop}
use Rattle.rows.specs.Rows.{front, LaysRow}
use Rattle.rows.proofs.Outcomes.{at_the_front}

-- behind the heading's places are the values, and then what stood there
spread : (heading values numbers : List ℤ) → heading ++ (values ++ drop (length values) (drop (length heading) numbers)) ≡ front (heading ++ values) numbers
unfolding front
spread heading values numbers = rw (append_assoc, length-append, drop-drop)

pub heading_and_values : (heading values behind numbers : List ℤ) (n : ℕ) → length values ≡ n → n ≤ length behind
    → behind ≡ drop (length heading) numbers → length behind + length heading ≡ length numbers
    → LaysRow (heading ++ values) numbers 0 (heading ++ (values ++ drop n behind))
heading_and_values heading values behind numbers n count room is all =
    let fits : length (heading ++ values) ≤ length numbers = rw length-append (omega arith) in
    at_the_front fits (rw (is, ← count) (spread heading values numbers))
