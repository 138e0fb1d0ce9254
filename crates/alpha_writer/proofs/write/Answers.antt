-- `alpha_writer::write` meets its contract: the payload is laid where the record is in range and fits, and sealed.
-- Assumes nothing.
use mathlib.Core.Path.{sym, ◌∙◌}
use native.Mathlib.Omega.{arith}
use Rattle.pens.proofs.Writing.{has_no_room, writes}
use Rattle.alpha_writer.proofs.Sealed.{frame_length, sentence_laid}
use Rattle.alpha_writer.proofs.write.Goals as goal

pub returns-then-out-length : goal.returns-then-out-length
returns-then-out-length g c =
    let s = g.S.Sentence in
    let size = frame_length s.PAYLOAD (s.payload c.args.r) (g.met.S.Sentence.payload_length c.args.r) in
    has_no_room (sym c.is_in_range.ensures ∙ c.if-not-is_in_range.false) (omega (arith, size, c.PAYLOAD-length.ensures))

pub returns : goal.returns
returns g c =
    let s = g.S.Sentence in
    let long = g.met.S.Sentence.payload_length c.args.r in
    let size = frame_length s.PAYLOAD (s.payload c.args.r) long in
    writes (sym c.is_in_range.ensures ∙ c.if-not-is_in_range.false) (omega (arith, size, c.PAYLOAD-length.ensures)) (omega (arith, size, c.PAYLOAD-length.ensures))
    (sentence_laid s.PAYLOAD (s.payload c.args.r) long _ _ _ (omega (arith, c.PAYLOAD-length.ensures)) c.lay_front.ensures (rw (sym c.PAYLOAD.ensures) c.put_seal.ensures))
