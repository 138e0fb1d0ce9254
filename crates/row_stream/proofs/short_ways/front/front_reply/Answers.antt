-- `row_stream::short_ways::front::front_reply` meets its contract: the bytes that the start needs are a good frame, and
-- its row is laid.
-- Assumes nothing.
use Rattle.std.proofs.Common.{◌≡◌, length, take, sym, ◌∙◌}
use lib.Seq.{length-take-le}
use Rattle.rows.specs.Rows.{row, front}
use Rattle.rows.proofs.Outcome.{was_read}
use Rattle.row_stream.proofs.Front.{frame_there, family_1}
use Rattle.row_stream.proofs.Told.{zero_ok}
use Rattle.row_stream.proofs.short_ways.front.front_reply.Goals as goal

pub returns : goal.returns
returns c =
    let r = c.args.reader.now in
    let offered = c.args.offered.now in
    let numbers = c.args.numbers.now in
    let n = c.in-Some.n in
    let there = c.if-offered-n.false in
    -- as many bytes as the start needs are there
    let long_enough : length (take n offered) ≡ n = length-take-le n offered there in
    let is = c.at_front-arrival.ensures.value in
    let found = was_read _ _ _ _ _ _ _ _ c.read_row.ensures (zero_ok c.read_row.result (sym c.is_err.ensures.value ∙ c.if-is_err.false)) in
    frame_there r offered n found.frame (rw c.requires.family family_1) c.requires.plain.opened c.requires.holds_none there (rw c.requires.family found.is-good)
    numbers _ _ c.requires.plain.row c.at_front-arrival.ensures.fits.0 c.at_front-arrival.ensures.fits.1
    (found.stands ∙ (λ i. front (row (is i).taken (is i).start (is i).skipped (long_enough i) found.frame) numbers))
    c.go_behind.ensures
