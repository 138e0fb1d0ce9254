-- `rows::reading::command_row` meets its contract: a command, or nothing.
-- Assumes nothing.
use Rattle.rows.proofs.Outcomes.{lays, lays_none}
use Rattle.rows.proofs.Read.{a_command, no_command}
use Rattle.rows.proofs.reading.command_row.Goals as goal

pub returns : goal.returns
returns c = rw (a_command _ _ c.in-Some.ensures, ← c.from.ensures) (lays c.lay_heading.ensures)

pub returns-in_default : goal.returns-in_default
returns-in_default c = rw (no_command _ c.in_default.ensures) (lays_none 8)
