-- A part of the bytes at the front of the places is that part of all of them.
-- Assumes nothing.
use Prim.Native.Nat.{ℕ, ◌+◌, ◌-◌, ◌≤◌}
use mathlib.Core.Path.{◌≡◌, ap, ◌∙◌}
use mathlib.Core.List.{List}
use native.Mathlib.Omega.{arith}
use lib.ListN.{take, drop}
use lib.Seq.{take-take}
use Rattle.rules.specs.Bytes.{part}
use Rattle.stream_laws.proofs.Jump.{drop_take}

pub part_of_front : (l : List ℕ) (all a n : ℕ) → a + n ≤ all → part a n (take all l) ≡ part a n l
part_of_front l all a n inside = ap (take n) (drop_take a all l) ∙ take-take n (all - a) (drop a l) (omega arith)
