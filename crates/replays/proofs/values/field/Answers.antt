-- `replays::values::field` meets its contract: the number of a model has its letter behind it.
-- Assumes nothing.
use Rattle.std.proofs.Common.{w64}
use mir.ValLaws.{to_z-of_z}
use Rattle.lines.proofs.Typed.{◌next◌}
use Rattle.replays.specs.Texts.{field_texts}
use Rattle.replays.proofs.values.field.Goals as goal

pub returns-in-Model : goal.returns-in-Model
unfolding field_texts
returns-in-Model c =
    let read = to_z-of_z w64 c.args.v c.ranges.v in
    rw c.in-Model.is (rw read at c.signed-in-Model.ensures next c.text.ensures)
