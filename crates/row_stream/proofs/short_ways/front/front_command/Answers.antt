-- `row_stream::short_ways::front::front_command` meets its contract: the six bytes are a command, and its row is laid.
-- Assumes nothing.
use Rattle.std.proofs.Common.{◌≡◌, length, take, arith, ◌∙◌}
use borrow.Author.Tests.{eq-eqb, le-leb}
use Rattle.rules.specs.declared.Frame.TheVariants.{Command}
use Rattle.rows.specs.Rows.{row, front, outcome_number}
use Rattle.rows.proofs.Read.{a_command}
use Rattle.row_stream.proofs.Front.{frame_there, family_3}
use Rattle.row_stream.proofs.short_ways.front.front_command.Goals as goal

pub returns : goal.returns
returns c =
    let r = c.args.reader.now in
    let offered = c.args.offered.now in
    let numbers = c.args.numbers.now in
    let code = c.in-Some.code in
    let laid = c.lay_heading-laid.ensures in
    let is = c.at_front.ensures.value in
    let zero : outcome_number c.lay_heading-laid.result ≡ 0 = laid.answers ∙ rw (le-leb 6 (length numbers) (omega (arith, c.requires.plain.row))) in
    frame_there r offered 6 (Command code) (rw c.requires.family family_3) c.requires.plain.opened c.requires.holds_none c.if-offered-lt-PACKET_LENGTH.false
    (rw c.requires.family (a_command (take 6 offered) code c.in-Some.ensures))
    numbers _ _ c.requires.plain.row c.at_front.ensures.fits.0 c.at_front.ensures.fits.1
    (laid.content ∙ rw (eq-eqb _ 0 zero) (λ i. front (row (is i).taken (is i).start (is i).skipped 6 (Command (c.from.ensures i))) numbers))
    c.go_behind.ensures
