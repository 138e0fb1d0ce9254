-- `held_bytes::pieces::take_piece` meets its contract: the buffer is the held bytes and the piece, so the turn of it is
-- the call on the piece.
-- Assumes nothing.
use Prim.Native.Nat.{ℕ, ◌+◌, ◌≤◌}
use mathlib.Core.Path.{◌≡◌, sym, ap, ◌∙◌}
use mathlib.Core.List.{List, ◌++◌}
use native.Mathlib.Omega.{arith}
use lib.ListN.{length, take, drop, length-append}
use Rattle.pens.specs.Pens.{laid}
use Rattle.stream_rules.specs.Heads.{head}
use Rattle.stream_rules.specs.Rule.{call}
use Rattle.stream_rules.specs.Streams.{held_of, open_call}
use Rattle.stream_laws.proofs.States.{longest_fits}
use Rattle.held_bytes.specs.Moves.{call_on}
use Rattle.held_bytes.proofs.Buffers.{zeros, length_zeros, joins}
use Rattle.held_bytes.proofs.Closing.{held_long}
use Rattle.held_bytes.proofs.Opening.{from_none}
use Rattle.held_bytes.proofs.Onward.{call_same}
use Rattle.held_bytes.proofs.pieces.take_piece.Goals as goal
use Rattle.held_bytes.proofs.pieces.take_piece.Goals.{After-text-2}

-- the bytes of the buffer
module _ (c : After-text-2) where
  abbrev count : ℕ
  count = c.from-count.result

  abbrev held : List ℕ
  held = held_of c.args.reader.now

  abbrev piece : List ℕ
  piece = c.args.piece.now

  size : length held ≡ count
  size = held_long c.args.reader.now c.requires.may_hold (omega arith) ∙ sym c.from-count.ensures

  room : length held + length piece ≤ length (zeros 266)
  room = omega (arith, length_zeros 266, size, c.requires.may_hold, longest_fits c.args.reader.now.family, c.requires.piece)

  -- both are laid into it
  laid_both : c.put_bytes-2.new.out ≡ laid count piece (laid 0 held (zeros 266))
  laid_both =
      c.put_bytes-2.ensures ∙ ap (laid count piece) (c.put_bytes.ensures ∙ ap (λ (l : List ℕ). laid 0 l (zeros 266)) (c.text.ensures.content ∙ ap (λ (n : ℕ). take n c.args.reader.now.held) c.from-count.ensures))

  bytes_are : c.text-2.result.now ≡ held ++ piece
  bytes_are =
      c.text-2.ensures.content
      ∙ ap (take (count + length piece)) laid_both
      ∙ ap (λ (n : ℕ). take (n + length piece) (laid n piece (laid 0 held (zeros 266)))) (sym size)
      ∙ joins held piece (zeros 266) room

  bytes_length : length c.text-2.result.now ≡ count + length piece
  bytes_length = ap length bytes_are ∙ length-append held piece ∙ ap (λ (n : ℕ). n + length piece) size

pub overflow_add-count : goal.overflow_add-count
overflow_add-count c = omega (arith, c.requires.may_hold, longest_fits c.args.reader.now.family, c.requires.piece)

pub turn_of-requires : goal.turn_of-requires
turn_of-requires c =
    let size = bytes_length (goal.at.turn_of-requires c).After-text-2 in
    record {
      there = omega (arith, size);
      low = c.requires.may_hold;
      fits = omega (arith, size, c.requires.may_hold, longest_fits c.args.reader.now.family, c.requires.piece);
    }

pub returns : goal.returns
returns c =
    let t = (goal.at.returns c).After-text-2 in
    let r = c.args.reader.now in
    let work = c.text-2.result.now in
    c.turn_of.ensures
    ∙ ap (open_call r)
    (from_none (call_on r work)
    ∙ ap (λ (n : ℕ). call (head r.family) (take n work) (drop n work)) (sym c.from-count.ensures ∙ sym (size t))
    ∙ call_same r.family (held t) (piece t) work (bytes_are t))
