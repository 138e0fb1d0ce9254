-- `spe_writer::status::lay_readings` meets its contract: its rows are fields 10 to 14.
-- Assumes nothing.
use mathlib.Core.Path.{◌∙◌}
use mathlib.Core.List.{append_assoc, append-nil}
use native.Mathlib.Omega.{arith}
use Rattle.rules.specs.Sentences.{commas}
use Rattle.rules.specs.Status.{status_texts}
use Rattle.frame_laws.proofs.Report.{fits}
use Rattle.pens.proofs.Rows.{zeros_row, ◌then◌}
use Rattle.spe_writer.proofs.Points.{point_row}
use Rattle.spe_writer.proofs.status.lay_readings.Goals as goal

pub returns : goal.returns
unfolding status_texts commas
returns c =
    let f = fits _ c.requires.0 in
    (zeros_row 4 _ (omega arith) c.put_field.ensures
    then point_row 2 _ (omega arith) c.put_point.ensures
    then point_row 2 _ (omega arith) c.put_point-2.ensures
    then point_row 1 _ (omega arith) c.put_point-3.ensures
    then point_row 1 _ (omega arith) c.put_point-4.ensures).laying (omega (arith, c.requires.1))
    ∙ simp (append_assoc, append-nil)
