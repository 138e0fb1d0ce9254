-- `vectors::panel::print_kept`: the offering, the close behind it and the draining are a run as a whole.
-- Assumes nothing.
use Rattle.vectors.proofs.Courses.{shuts, whole}
use Rattle.vectors.proofs.panel.print_kept.Goals as goal

pub returns : goal.returns
returns g c = whole _ _ c.in_ok-print_offered.ensures (search shuts) c.print_drained.ensures
