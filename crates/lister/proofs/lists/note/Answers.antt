-- `lister::lists::note` meets its contract: where the list has no such place, nothing is to be set.
-- Assumes nothing.
use mathlib.Core.Path.{sym}
use native.Mathlib.Omega.{arith}
use lib.Seq.{set_out}
use Rattle.lister.proofs.lists.note.Goals as goal

pub returns-else-n-starts : goal.returns-else-n-starts
returns-else-n-starts c = sym (set_out _ _ _ (omega (arith, c.if-n-starts.false)))
