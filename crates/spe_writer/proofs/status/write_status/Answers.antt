-- `spe_writer::status::write_status` meets its contract: the test is the rule's, and the report is laid where it passes and fits.
-- Assumes nothing.
use mathlib.Core.Path.{sym, ◌∙◌}
use native.Mathlib.Omega.{arith}
use Rattle.spe_writer.proofs.Report.{report-length}
use Rattle.pens.proofs.Writing.{has_no_room, writes}
use Rattle.spe_writer.proofs.status.write_status.Goals as goal

pub returns-then-out-length : goal.returns-then-out-length
returns-then-out-length c =
    let in_range = sym c.status_in_range.ensures ∙ c.if-not-status_in_range.false in
    has_no_room in_range (omega (arith, report-length _ in_range))

pub returns : goal.returns
returns c =
    let in_range = sym c.status_in_range.ensures ∙ c.if-not-status_in_range.false in
    writes in_range (omega (arith, report-length _ in_range, c.from-length.ensures)) (omega arith) c.lay_status.ensures
