-- `rows::laying::lay_reading` meets its contract: a refusal lays nothing.
-- Assumes nothing.
use Rattle.std.proofs.lemmas.Result.{err_from_is_err_and}
use Rattle.rows.proofs.Outcomes.{lays, lays_none}
use Rattle.rows.proofs.laying.lay_reading.Goals as goal

pub returns-in_err-reading : goal.returns-in_err-reading
returns-in_err-reading c =
    let p = err_from_is_err_and c.from_residual.result c.from_residual.ensures.1 in
    rw (p.1, p.2, c.in_err-reading.was) (lays_none _)

pub returns : goal.returns
returns c = rw c.in_ok-reading.was (lays c.lay_frame.ensures)
