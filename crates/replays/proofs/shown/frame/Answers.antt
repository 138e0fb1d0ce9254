-- `replays::shown::frame` meets its contract: the texts one behind the other.
-- Assumes nothing.
use Rattle.records.proofs.Places.{told_values}
use Rattle.lines.proofs.Typed.{◌next◌}
use Rattle.replays.specs.Texts.{frame_texts}
use Rattle.replays.proofs.shown.frame.Goals as goal

pub returns : goal.returns
unfolding frame_texts
returns c =
    let told = c.fields_of-told.ensures in
    rw told.kind at c.kind.ensures
    next rw told.kind at c.asked.ensures
    next rw (told_values told, c.forms_of.ensures, told.kind) at c.shown.ensures
    next c.text.ensures
    next c.written.ensures
