-- `rows::reading::read_row` meets its contract: replies and commands have their own row, and any other is that of the frame read.
-- Assumes nothing.
use Rattle.rows.proofs.reading.read_row.Goals as goal

pub returns-in_default : goal.returns-in_default
returns-in_default c = rw (← c.read_frame.ensures.answers) c.lay_reading.ensures
