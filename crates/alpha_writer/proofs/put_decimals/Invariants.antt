-- `alpha_writer::put_decimals` meets its contract. The loop's invariant: the fields that are left, laid from the next
-- place on, give what all of them give from `at` on.
-- Assumes nothing.
use mathlib.Core.Path.{◌≡◌}
use lib.ListN.{length}
use Rattle.pens.specs.Pens.{laid}
use Rattle.alpha_writer.specs.Parts.{decimal_fields}
use Rattle.alpha_writer.proofs.Decimals.{Left}
use Rattle.alpha_writer.proofs.put_decimals.Given as goal

abbrev pub invariant-loop-width : goal.invariant-loop-width
invariant-loop-width l =
    (goal.iterator-loop-width).can_next l.width-iterator
    × (goal.iterator-loop-width).is_finite l.width-iterator
    × (length l.out ≡ length l.initial.out)
    × Left l.place l.width-iterator.a.rest.now l.width-iterator.b.rest.now l.out (laid l.at (decimal_fields l.widths l.numbers) l.initial.out)
