-- `replays::shown::written` meets its contract: what the writer answered says whether its bytes or a dash are shown.
-- Assumes nothing.
use Rattle.replays.proofs.Answered.{longest, bytes_shown, dash_shown}
use Rattle.replays.proofs.shown.written.Goals as goal

pub returns-in-Err : goal.returns-in-Err
returns-in-Err c = rw (dash_shown _ c.write_frame.ensures (longest _) _ c.in-Err.is) at c.text.ensures

pub returns-in-Ok : goal.returns-in-Ok
returns-in-Ok c = rw (bytes_shown _ c.write_frame.ensures (longest _) _ c.in-Ok.is) at c.hex.ensures
