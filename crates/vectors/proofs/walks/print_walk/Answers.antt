-- `vectors::walks::print_walk` ends: where a part has bytes, the reader has gone on, and not past the end of the capture.
-- Assumes nothing.
use Rattle.std.proofs.Common.{◌≡◌, ℕ, ◌<◌, ◌≤◌, Bool, List, length, sym, ap, ◌∙◌, arith, Bor}
use borrow.Author.Tests.{false-eqb}
use Rattle.captures.specs.Captures.{Gives}
use Rattle.captures.specs.Finds.{next_in}
use Rattle.captures.specs.declared.walks.CaptureReader.{CaptureReader}
use Rattle.captures.proofs.Standing.{spanned, advances}
use Rattle.vectors.proofs.walks.print_walk.Goals as goal

onward : (f : ℕ) (t : Bool) (h y : CaptureReader) (r : Bor (List ℕ)) → Gives f t h y r → (length r.now ≡ 0 → ⊥) → (h.place < y.place) × (y.place ≤ length h.capture.now)
onward f t h y r g some =
    let bytes = h.capture.now in
    let went = advances bytes h.place (next_in f bytes h.place t) (spanned f bytes h.place t) (λ none. some (ap length g.gives.frame.content ∙ none)) in
    (omega (arith, went.0, g.gives.reached), omega (arith, went.1, g.gives.reached))

pub loop-reader-smaller : goal.loop-reader-smaller
loop-reader-smaller g c =
    let on = onward c.args.family c.args.reports c.loop-reader.reader c.next-frame.new.reader c.next-frame.result c.next-frame.ensures (false-eqb _ _ (sym c.if-is_empty.false ∙ c.is_empty.ensures)) in
    omega (arith, on.0, on.1, ap length c.loop-reader.invariant)
