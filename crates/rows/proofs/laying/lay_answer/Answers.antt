-- `rows::laying::lay_answer` meets its contract: a refusal lays nothing, and is given as it is.
-- Assumes nothing.
use Rattle.rows.proofs.AnyRefusals.{laid, not_laid}
use Rattle.rows.proofs.Outcomes.{lays_none}
use Rattle.rows.proofs.laying.lay_answer.Goals as goal

pub returns-in-Ok-lay_progress : goal.returns-in-Ok-lay_progress
returns-in-Ok-lay_progress g c = rw c.in-Ok.is (laid _ c.in-Ok-lay_progress.ensures)

pub returns-in-Err-lay_progress : goal.returns-in-Err-lay_progress
returns-in-Err-lay_progress g c = rw c.in-Ok.is (not_laid _ _ _ c.in-Err-lay_progress.ensures c.no_room.ensures)

pub returns-in-Err : goal.returns-in-Err
returns-in-Err g c = rw c.in-Err.is (lays_none _)
