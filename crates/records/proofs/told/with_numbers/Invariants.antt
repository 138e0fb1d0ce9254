-- `records::told::with_numbers` meets its contract. The loop's invariant: the first i numbers are laid at the front of the places,
-- whose other ones are zeros.
-- Assumes nothing.
use mathlib.Core.Path.{◌≡◌}
use mathlib.Core.List.{map}
use lib.IntN.{pos}
use Rattle.records.proofs.Places.{over, zeros}
use Rattle.records.proofs.told.with_numbers.Given as goal

abbrev pub invariant-loop-i : goal.invariant-loop-i
invariant-loop-i l = l.values ≡ over zeros (map pos l.numbers) l.i
