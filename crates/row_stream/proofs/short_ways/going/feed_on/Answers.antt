-- `row_stream::short_ways::going::feed_on` meets its contract: all bytes are kept, and the row is that of more wanted.
-- Assumes nothing.
use Rattle.std.proofs.Common.{ℕ, ◌+◌, ◌^◌, ◌<◌, ◌≡◌, ◌++◌, length, take, arith, refl, ap, ◌∙◌}
use borrow.Author.Tests.{eq-eqb, le-leb}
use Rattle.pens.specs.Pens.{laid as laid_at}
use Rattle.rows.specs.Rows.{front, outcome_number}
use Rattle.rows.specs.Headings.{heading_of}
use Rattle.rows.specs.declared.laying.Heading.{Heading}
use Rattle.stream_rules.specs.Streams.{filled, held_of}
use Rattle.held_bytes.proofs.Appending.{at_front}
use Rattle.row_stream.proofs.Few.{goes_on}
use Rattle.row_stream.proofs.short_ways.going.feed_on.Goals as goal

pub returns : goal.returns
returns c =
    let r = c.args.reader.now in
    let others = c.args.others.now in
    let numbers = c.args.numbers.now in
    let few = c.requires.goes_on.few in
    let long : length r.held ≡ 133 = omega arith in
    let low : r.at < 2 ^ 32 = omega arith in
    let less : r.skipped < 2 ^ 32 = omega arith in
    let laid = c.lay_heading.ensures in
    let zero : outcome_number c.lay_heading.result ≡ 0 = laid.answers ∙ rw (le-leb 6 (length numbers) (omega (arith, c.requires.plain.row))) in
    let stands = laid.content ∙ rw (eq-eqb _ 0 zero) (ap (λ (h : Heading). front (heading_of h) numbers) c.without_frame.ensures) in
    let behind : c.lay.new.places ≡ laid_at r.count others r.held = c.lay.ensures ∙ ap (λ (n : ℕ). laid_at n others r.held) c.from-used.ensures in
    let kept = c.keep_part.ensures ∙ ap (λ (n : ℕ). filled (take (n + length others) c.lay.new.places)) c.from-used.ensures in
    rw (zero, c.from-used.ensures)
    (goes_on r others (held_of r ++ others) numbers c.requires.plain few long refl
    c.requires.goes_on.undecided low less c.lay_heading.new.numbers stands c.keep_part.new.places
    (kept ∙ ap filled (at_front r.count others r.held long few.behind c.lay.new.places behind)))
