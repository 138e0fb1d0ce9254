-- `rows::reading::reply_row` meets its contract: an acknowledgement, or else a report or nothing.
-- Assumes nothing.
use Rattle.rows.proofs.Outcomes.{lays, lays_none}
use Rattle.rows.proofs.Read.{an_ack, a_report, no_reply}
use Rattle.rows.proofs.reading.reply_row.Goals as goal

pub returns-in-Some : goal.returns-in-Some
returns-in-Some c = rw (an_ack _ _ c.in-Some.ensures, ← c.from.ensures) (lays c.lay_heading.ensures)

pub returns-in_default-read_numbers : goal.returns-in_default-read_numbers
returns-in_default-read_numbers c = rw (no_reply _ c.in_default.ensures c.in_default-read_numbers.ensures) (lays_none 8)

pub returns : goal.returns
returns c =
    let report = a_report _ _ c.in_default.ensures c.in-Some-read_numbers.ensures in
    rw report.0 (lays (rw report.1 at c.lay_values.ensures))
