-- `row_writer::write_given` meets its contract: what is given is written, and where it is nothing that is refused.
-- Assumes nothing.
use Rattle.std.proofs.lemmas.Result.{err_from_is_err_and}
use Rattle.row_writer.proofs.Answers.{given, not_given}
use Rattle.row_writer.proofs.write_given.Goals as goal

pub returns-in_err-frame : goal.returns-in_err-frame
returns-in_err-frame c =
    let p = err_from_is_err_and c.from_residual.result c.from_residual.ensures.1 in
    rw (p.1, p.2) (not_given _ _ _ _ _ c.in_err-frame.ensures)

pub returns : goal.returns
returns c = rw (given _ _ _ _ c.in_ok-frame.ensures) c.write_frame.ensures
