-- `row_stream::short_ways::few::feed_few` meets its contract: the held bytes and the few stand at the front of the
-- places, so what the search has found and laid there is what the call does.
-- Assumes nothing.
use Rattle.std.proofs.Common.{ℕ, ◌+◌, ◌≤◌, ◌≡◌, List, ◌++◌, ℤ, length, take, arith, refl, sym, ap, ◌∙◌}
use Rattle.rules.specs.Bytes.{part}
use Rattle.stream_rules.specs.Streams.{filled, held_of}
use Rattle.stream_rules.specs.declared.Reader.{Reader}
use Rattle.stream_laws.proofs.States.{longest_fits}
use Rattle.pens.specs.Pens.{laid as laid_at}
use Rattle.held_bytes.proofs.Appending.{at_front}
use Rattle.held_bytes.proofs.Keeping.{part_of_front}
use Rattle.held_bytes.proofs.Opening.{with_places}
use Rattle.search.specs.Sought.{sought_in}
use Rattle.search.specs.declared.Sought.{Sought}
use Rattle.search.specs.declared.Sought.TheVariants.{Ready, Waiting}
use Rattle.search.specs.declared.Stop.{Stop}
use Rattle.rows.specs.Rows.{front}
use Rattle.row_stream.specs.Short.{IsFew, IsPlain}
use Rattle.row_stream.specs.RowSought.{SeeksRow, row_of}
use Rattle.row_stream.proofs.Few.{FewAt, Kept, few_at, bytes_long, behind, left_of}
use Rattle.row_stream.proofs.short_ways.few.feed_few.Goals as goal
use Rattle.row_stream.proofs.short_ways.few.feed_few.Goals.{After-unwrap_or, in-Some, in-None}

-- the places with the few laid behind those held, the bytes at their front, and what the search has found in them
module _ (r : Reader) (few laid bytes : List ℕ) (numbers after : List ℤ) (stop : Stop)
    (plain : IsPlain r numbers) (a_few : IsFew r (length few)) (long : length r.held ≡ 133)
    (is : laid ≡ laid_at r.count few r.held) (content : bytes ≡ take (r.count + length few) laid)
    (seeks : SeeksRow (with_places r laid) bytes numbers stop after) where
  bytes_are : bytes ≡ held_of r ++ few
  bytes_are = content ∙ at_front r.count few r.held long a_few.behind laid is

  seeks_so : SeeksRow r bytes numbers stop after
  seeks_so = record { found = seeks.found; laid = seeks.laid ∙ ap (λ (l : List ℤ). front l numbers) (row_same (sought_in r.family bytes)) }
    where
      row_same : (x : Sought) → row_of (with_places r laid) (length bytes) x ≡ row_of r (length bytes) x
      row_same (Ready hit) = refl
      row_same (Waiting from) = refl

  found : FewAt r few bytes numbers after stop
  found = few_at r few bytes numbers plain a_few long bytes_are stop after seeks_so

  -- the frame ends within the places
  small : behind stop ≤ 133
  small = omega (arith, found.order, found.within, bytes_long r few bytes numbers plain a_few long bytes_are, a_few.behind)

  fits : left_of stop ≤ 133
  fits = omega (arith, found.short, longest_fits r.family)

  -- what is left of the places is what is kept of the bytes
  keeps : (l : List ℕ) → l ≡ filled (part (behind stop) (left_of stop) laid) → l ≡ filled (part (behind stop) (left_of stop) bytes)
  keeps l e =
      e
      ∙ ap filled (sym (part_of_front laid (r.count + length few) (behind stop) (left_of stop)
      (omega (arith, found.order, found.within, bytes_long r few bytes numbers plain a_few long bytes_are))))
      ∙ ap (λ (b : List ℕ). filled (part (behind stop) (left_of stop) b)) (sym content)

-- the same of the call, whose places are laid behind those held
module _ (c : After-unwrap_or) where
  abbrev reader : Reader
  reader = c.args.reader.now

  abbrev others : List ℕ
  others = c.args.few.now

  abbrev places : List ℕ
  places = c.lay.new.places

  held_long : length reader.held ≡ 133
  held_long = omega arith

  are_laid : places ≡ laid_at reader.count others reader.held
  are_laid = c.lay.ensures ∙ ap (λ (n : ℕ). laid_at n others reader.held) c.from-used.ensures

  are_content : c.text.result.now ≡ take (reader.count + length others) places
  are_content = c.text.ensures.content ∙ ap (λ (n : ℕ). take (n + length others) places) c.from-used.ensures

  stops : FewAt reader others c.text.result.now c.args.numbers.now c.seek_row-stop.new.numbers c.seek_row-stop.result
  stops = found reader others places c.text.result.now c.args.numbers.now _ c.seek_row-stop.result c.requires.plain c.requires.few held_long are_laid are_content c.seek_row-stop.ensures

  ends : behind c.seek_row-stop.result ≤ 133
  ends = small reader others places c.text.result.now c.args.numbers.now _ c.seek_row-stop.result c.requires.plain c.requires.few held_long are_laid are_content c.seek_row-stop.ensures

  leaves : left_of c.seek_row-stop.result ≤ 133
  leaves = fits reader others places c.text.result.now c.args.numbers.now _ c.seek_row-stop.result c.requires.plain c.requires.few held_long are_laid are_content c.seek_row-stop.ensures

  keeps_so : (l : List ℕ) → l ≡ filled (part (behind c.seek_row-stop.result) (left_of c.seek_row-stop.result) places)
      → Kept c.seek_row-stop.result c.text.result.now l
  keeps_so = keeps reader others places c.text.result.now c.args.numbers.now _ c.seek_row-stop.result c.requires.plain c.requires.few held_long are_laid are_content c.seek_row-stop.ensures

pub overflow_add-from : goal.overflow_add-from
overflow_add-from c = omega (arith, ends (goal.at.overflow_add-from c).After-unwrap_or, c.unwrap_or.ensures)

pub overflow_sub-left : goal.overflow_sub-left
overflow_sub-left c = omega (arith, (stops (goal.at.overflow_sub-left c).After-unwrap_or).order, c.unwrap_or.ensures)

pub overflow_cast-reader : goal.overflow_cast-reader
overflow_cast-reader c = omega (arith, leaves (goal.at.overflow_cast-reader c).After-unwrap_or, c.unwrap_or.ensures)

pub returns : goal.returns
returns c =
    let t = (goal.at.returns c).After-unwrap_or in
    let stop = c.seek_row-stop.result in
    let kept : Kept stop c.text.result.now c.keep_part.new.places = keeps_so t _ (rw c.unwrap_or.ensures at c.keep_part.ensures) in
    rw (c.advanced-reader.ensures, c.unwrap_or.ensures)
    (elim c.match-stop.branch [
      | in-Some w ↦ rw w.reader-is ((stops t).hands _ w.in-Some.is _ kept)
      | in-None w ↦ rw (w.reader-is, w.advanced-reader-in-None.ensures, c.unwrap_or.ensures) ((stops t).waits w.in-None.is _ kept)
    ])
