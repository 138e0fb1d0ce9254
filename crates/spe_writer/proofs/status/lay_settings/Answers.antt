-- `spe_writer::status::lay_settings` meets its contract: its rows are fields 1 to 5.
-- Assumes nothing.
use mathlib.Core.Path.{refl, ◌∙◌}
use mathlib.Core.List.{append_assoc, append-nil}
use native.Mathlib.Omega.{arith}
use Rattle.rules.specs.Sentences.{commas}
use Rattle.rules.specs.Status.{status_texts}
use Rattle.frame_laws.proofs.Report.{fits}
use Rattle.pens.proofs.Rows.{row, zeros_row, ◌then◌}
use Rattle.spe_writer.proofs.status.lay_settings.Goals as goal

pub returns : goal.returns
unfolding status_texts commas
returns c =
    let f = fits _ c.requires.0 in
    (zeros_row 2 _ (omega arith) (rw c.from.ensures at c.put_field.ensures)
    then row refl c.put_byte.ensures
    then row refl c.put_letter.ensures
    then row refl c.put_letter-2.ensures
    then row refl c.put_letter-3.ensures
    then zeros_row 1 _ (omega arith) (rw c.from-2.ensures at c.put_field-2.ensures)).laying (omega (arith, c.requires.1))
    ∙ simp (append_assoc, append-nil)
