-- `listings::table::frame_line` meets its contract: what is laid are the numbers and the kind of the next frame, and the
-- tally is then one frame further.
-- Assumes nothing.
use Rattle.std.proofs.Common.{ℕ, ◌+◌, ◌≡◌, ap, ap₂, ◌∙◌, List, ◌++◌, length, arith}
use Rattle.rules.specs.Bytes.{part}
use Rattle.rules.specs.Answers.{read_one}
use Rattle.std.specs.Prelude.{Ok}
use Rattle.stream_rules.specs.Rule.{Found}
use Rattle.stream_rules.specs.Lister.{frame_from}
use Rattle.lines.specs.declared.Line.{Line}
use Rattle.listings.specs.Listing.{number_texts, line_texts}
use Rattle.listings.specs.Parts.{part_texts}
use Rattle.listings.specs.Tallies.{LaysLine}
use Rattle.listings.specs.declared.table.Tally.{Tally}
use Rattle.listings.proofs.Answers.{room}
use Rattle.listings.proofs.Fronts.{more}
use Rattle.listings.proofs.Tallies.{Next, next}
use Rattle.listings.proofs.table.frame_line.Goals as goal

-- what shows a frame's numbers and its bytes shows the frame
shown : (family start skipped : ℕ) (bytes : List ℕ) (f : Found) {line after : Line}
    → start ≡ f.start → length bytes ≡ f.length → skipped ≡ f.skipped → read_one family bytes ≡ Ok f.frame
    → LaysLine (number_texts start (length bytes) skipped ++ part_texts family bytes) line after
    → LaysLine (line_texts f) line after
shown family start skipped bytes f a b c d typed = rw (a, b, c, d) at typed

-- The bytes that are given for the next frame.
module _ (capture : List ℕ) (start : ℕ) (t : Tally) (h : Next capture start t) (bytes : List ℕ) (is : bytes ≡ frame_from t.family capture start) where
  its_bytes : bytes ≡ part h.frame.start h.frame.length capture
  its_bytes = is ∙ ap (frame_from t.family capture) h.starts_here ∙ h.given

  its_length : length bytes ≡ h.frame.length
  its_length = ap length its_bytes ∙ h.stands.size

pub overflow_sub-start : goal.overflow_sub-start
overflow_sub-start c =
    let h = next _ _ _ c.requires.onward in
    omega (arith, h.starts_here, h.place)

pub overflow_add-result : goal.overflow_add-result
overflow_add-result c = omega (arith, c.requires.onward.there, room c.args.tally.family _ c.requires.onward.short)

pub overflow_add-result-2 : goal.overflow_add-result-2
overflow_add-result-2 c =
    let h = next _ _ _ c.requires.onward in
    omega (arith, h.starts_here, its_length _ _ _ h _ c.next_frame-frame.ensures.content, h.stands.inside, h.short)

pub overflow_add-result-3 : goal.overflow_add-result-3
overflow_add-result-3 c =
    let h = next _ _ _ c.requires.onward in
    omega (arith, its_length _ _ _ h _ c.next_frame-frame.ensures.content, h.apart, h.place, h.stands.inside, h.short)

pub returns : goal.returns
returns c =
    let a = c.args in
    let h = next _ _ _ c.requires.onward in
    let f = h.frame in
    let bytes = c.next_frame-frame.result.now in
    let its = its_length _ _ _ h bytes c.next_frame-frame.ensures.content in
    let read = ap (read_one a.tally.family) (its_bytes _ _ _ h bytes c.next_frame-frame.ensures.content) ∙ h.stands.read in
    let lays = shown a.tally.family _ _ bytes f h.starts_here its (omega (arith, h.starts_here, h.place)) read (more c.numbers.ensures c.part_kind.ensures) in
    record {
      types = rw h.line lays.types;
      same = lays.same;
      further = ap₂
          (λ (end inside : ℕ). record { family = a.tally.family; listed = a.tally.listed + 1; end = end; inside = inside })
          (omega (arith, h.starts_here, its, h.end))
          (omega (arith, its, h.counts));
    }
