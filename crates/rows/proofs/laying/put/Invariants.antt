-- `rows::laying::put` meets its contract. The loop's invariant: as many places as values were passed hold those. Assumes nothing.
use Rattle.std.proofs.Common.{◌≡◌, map, take}
use Rattle.rows.proofs.laying.put.Given as goal

abbrev pub invariant-loop-i : goal.invariant-loop-i
invariant-loop-i g l = take l.i l.places ≡ map g.T.RowNumber.number (take l.i l.values)
