-- `row_stream::short_ways::row_search::walk` meets its contract. The loop's invariant: the walk from the first start on
-- has come to the stop, and nothing is laid. The measure is what is left of the bytes.
-- Assumes nothing.
use Prim.Native.Nat.{◌-◌}
use mathlib.Core.Path.{◌≡◌}
use lib.ListN.{length}
use Rattle.search.specs.Sought.{Stops}
use Rattle.row_stream.proofs.short_ways.row_search.walk.Given as goal

abbrev pub invariant-loop-stop : goal.invariant-loop-stop
invariant-loop-stop l = Stops l.reader.family l.s 0 0 l.stop × (l.numbers ≡ l.initial.numbers)

abbrev pub decreases-loop-stop : goal.decreases-loop-stop
decreases-loop-stop l = length l.s - l.stop.at
