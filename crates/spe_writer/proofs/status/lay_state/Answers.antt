-- `spe_writer::status::lay_state` meets its contract: its rows are fields 15 to 19, and the comma behind them.
-- Assumes nothing.
use mathlib.Core.Path.{refl, ◌∙◌}
use mathlib.Core.List.{append_assoc}
use native.Mathlib.Omega.{arith}
use Rattle.rules.specs.Status.{status_texts, joined}
use Rattle.frame_laws.proofs.Report.{fits}
use Rattle.pens.proofs.Rows.{row, spaces_row, ◌then◌}
use Rattle.spe_writer.proofs.status.lay_state.Goals as goal

pub returns : goal.returns
unfolding status_texts joined
returns c =
    let f = fits _ c.requires.0 in
    (spaces_row 2 _ (omega arith) c.put_field.ensures
    then spaces_row 2 _ (omega arith) c.put_field-2.ensures
    then spaces_row 2 _ (omega arith) c.put_field-3.ensures
    then row refl c.put_letter.ensures
    then row refl c.put_letter-2.ensures
    then row refl c.put_byte.ensures).laying (omega (arith, c.requires.1))
    ∙ simp append_assoc
