-- `kpa_writer::put_pairs` meets its contract. The loop's invariant: what is laid, with what is left laid into the rest, is all of it
-- laid into the text as it was lent.
-- Assumes nothing.
use Prim.Native.Nat.{◌*◌}
use mathlib.Core.Path.{◌≡◌}
use mathlib.Core.List.{◌++◌}
use lib.ListN.{take, drop}
use Rattle.kpa_writer.specs.Pairs.{pairs_over}
use Rattle.kpa_writer.proofs.put_pairs.Given as goal

abbrev pub invariant-loop-k : goal.invariant-loop-k
invariant-loop-k l = take (3 * l.k) l.t ++ pairs_over (drop l.k l.numbers) (drop (3 * l.k) l.t) ≡ pairs_over l.numbers l.initial.t
