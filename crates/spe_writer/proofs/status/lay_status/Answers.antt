-- `spe_writer::status::lay_status` meets its contract: the head, the four parts of the data and what stands behind them are rows.
-- The sum is that of the data, which is found where it was laid.
-- Assumes nothing.
use mathlib.Core.Path.{refl, ◌∙◌}
use mathlib.Core.List.{[], ◌∷◌, append_assoc}
use native.Mathlib.Omega.{arith}
use Rattle.rules.specs.Status.{status_frame, status_texts, joined}
use Rattle.frame_laws.proofs.Comma.{end_length}
use Rattle.frame_laws.proofs.Report.{fits, texts_length}
use Rattle.pens.proofs.Rows.{row, ◌then◌, sealed}
use Rattle.spe_writer.specs.Fields.{check}
use Rattle.spe_writer.proofs.Report.{settings_length, antennas_length, readings_length, state_length, parts_joined}
use Rattle.spe_writer.proofs.status.lay_status.Goals as goal

pub returns : goal.returns
unfolding status_frame
returns c =
    let s = c.args.s in
    let data₁ = joined (status_texts s) in
    let rows =
    row refl c.put_bytes.ensures
    then row (settings_length s) c.lay_settings.ensures
    then row (antennas_length s) c.lay_antennas.ensures
    then row (readings_length s) c.lay_readings.ensures
    then row (state_length s) c.lay_state.ensures in
    let checked =
    sealed 4 67 2 (0xAA ∷ 0xAA ∷ 0xAA ∷ 0x43 ∷ []) data₁ check refl (texts_length s) refl
    (rw (parts_joined s) at rows)
    c.lay_check.ensures in
    let end = end_length s.comma (fits s c.requires.0).comma in
    (checked then row end c.lay_end.ensures).laying (omega (arith, c.requires.1))
    ∙ simp append_assoc
