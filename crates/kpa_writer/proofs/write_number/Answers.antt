-- `kpa_writer::write_number` meets its contract: its test is the rule's, and the digits that the pen lays are those that the
-- rule has behind the letters.
-- Assumes nothing.
use mathlib.Core.Path.{sym}
use native.Mathlib.Nat.{lt_of_le_of_lt}
use borrow.Author.Tests.{le-leb, lt-leb}
use Rattle.rules.specs.Messages.{message_in_range, message_bytes}
use Rattle.frame_laws.proofs.Listed.{number_fits}
use Rattle.pens.proofs.Writing.{refuses, allowed_too}
use Rattle.kpa_writer.proofs.Numbers.{none_up_to, digits_laid}
use Rattle.kpa_writer.proofs.write_number.Goals as goal

pub returns-in_default : goal.returns-in_default
unfolding message_in_range
returns-in_default c = refuses (rw (← c.behind_letters.ensures) (none_up_to c.behind_letters.result c.in_default.not-ANumber c.args.n))

pub returns-then-limit-n : goal.returns-then-limit-n
unfolding message_in_range
returns-then-limit-n c = refuses (rw (← c.in-ANumber.ensures) (lt-leb _ _ c.if-limit-n.true))

pub returns : goal.returns
unfolding message_in_range message_bytes
returns c =
    let is = sym c.in-ANumber.ensures in
    let most = c.if-limit-n.false in
    let fits = number_fits c.args.letters _ _ is in
    let digits = digits_laid _ c.args.n _ fits.1 (lt_of_le_of_lt most fits.2) c.put_number.ensures in
    allowed_too (rw is (le-leb _ _ most)) (rw is (rw (c.text.ensures.content, digits) at c.write_letters.ensures))
