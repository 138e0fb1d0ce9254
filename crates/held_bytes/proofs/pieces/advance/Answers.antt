-- `held_bytes::pieces::advance` meets its contract: where nothing is held, the bytes offered are searched; else the
-- first piece is taken, and where that leaves no frame, the search goes on from what was kept.
-- Assumes nothing.
use Prim.Native.Nat.{ℕ, ◌-◌, ◌≤◌}
use mathlib.Core.Path.{◌≡◌, sym, ap, ◌∙◌}
use mathlib.Core.List.{List}
use native.Mathlib.Omega.{arith}
use lib.ListN.{length, take, drop, length-take, length-drop, take-append-drop}
use lib.Seq.{take_all}
use Rattle.std.specs.Prelude.{Ok}
use Rattle.stream_rules.specs.declared.Progress.TheVariants.{More}
use Rattle.stream_rules.specs.Heads.{head}
use Rattle.stream_rules.specs.Rule.{call}
use Rattle.stream_rules.specs.Streams.{held_of, open_call}
use Rattle.stream_rules.specs.declared.Fed.{Fed}
use Rattle.stream_rules.specs.declared.Reader.{Reader}
use Rattle.stream_laws.proofs.Lists.{whole_rest}
use Rattle.stream_laws.proofs.States.{longest_fits}
use Rattle.held_bytes.specs.Moves.{call_on, later, fed_at}
use Rattle.held_bytes.proofs.Onward.{stays_ready, Goes, waits_on}
use Rattle.held_bytes.proofs.Opening.{from_none}
use Rattle.held_bytes.proofs.pieces.advance.Goals as goal
use Rattle.held_bytes.proofs.pieces.advance.Goals.{In-More}

-- a call on bytes that are others
on : (r : Reader) (bytes others : List ℕ) (f : Fed) → bytes ≡ others → f ≡ open_call r (call (head r.family) (held_of r) bytes)
    → f ≡ open_call r (call (head r.family) (held_of r) others)
on r bytes others f is opens = opens ∙ ap (λ (l : List ℕ). open_call r (call (head r.family) (held_of r) l)) is

-- where the piece leaves no frame, how the call goes on; what was kept is no longer than the piece
next : (c : In-More) → Goes c.args.reader.now c.args.offered.now c.take_piece-answer.new.reader c.in-More.taken
next c =
    waits_on c.args.reader.now c.args.offered.now (omega (arith, c.if-offered-le-PLACES.false)) (fed_at c.take_piece-answer.new.reader c.take_piece-answer.result) c.in-More.taken
    (on _ _ _ _ c.text.ensures.content c.take_piece-answer.ensures) (c.in-Ok.is ∙ ap Ok c.in-More.is)

short : (c : In-More) → c.take_piece-answer.new.reader.count ≤ 133
short c = omega (arith, (next c).short, longest_fits c.take_piece-answer.new.reader.family)

pub returns-then-reader-eq0 : goal.returns-then-reader-eq0
returns-then-reader-eq0 c =
    let r = c.args.reader.now in
    let offered = c.args.offered.now in
    c.turn_of.ensures
    ∙ ap (open_call r)
    (from_none (call_on r offered)
    ∙ ap (λ (n : ℕ). call (head r.family) (take n offered) (drop n offered)) c.if-reader-eq0.true
    ∙ ap (λ (n : ℕ). call (head r.family) (take n r.held) offered) (sym c.if-reader-eq0.true))

pub take_piece-answer-requires-clause-piece : goal.take_piece-answer-requires-clause-piece
take_piece-answer-requires-clause-piece c = omega (arith, ap length c.text.ensures.content, length-take 133 c.args.offered.now)

pub returns-then-offered-le-PLACES : goal.returns-then-offered-le-PLACES
returns-then-offered-le-PLACES c = on _ _ _ _ (c.text.ensures.content ∙ take_all 133 c.args.offered.now c.if-offered-le-PLACES.true) c.take_piece-answer.ensures

pub returns-in_default : goal.returns-in_default
returns-in_default c =
    on _ _ _ _ (take-append-drop 133 c.args.offered.now)
    (stays_ready c.args.reader.now _ (drop 133 c.args.offered.now) _
    (on _ _ _ _ c.text.ensures.content c.take_piece-answer.ensures) (λ n is. c.in_default.not-Ok _ is))

pub returns-in_default-progress : goal.returns-in_default-progress
returns-in_default-progress c =
    ap (fed_at c.take_piece-answer.new.reader) (sym c.in-Ok.is)
    ∙ on _ _ _ _ (take-append-drop 133 c.args.offered.now)
    (stays_ready c.args.reader.now _ (drop 133 c.args.offered.now) _
    (on _ _ _ _ c.text.ensures.content c.take_piece-answer.ensures)
    (λ n is. let same : c.in-Ok.progress ≡ More n = cc in c.in_default-progress.not-More n same))

pub overflow_sub-from : goal.overflow_sub-from
overflow_sub-from c = omega (arith, short (goal.at.overflow_sub-from c).In-More)

pub turn_of-requires-2 : goal.turn_of-requires-2
turn_of-requires-2 c =
    let k = (goal.at.turn_of-requires-2 c).In-More in
    let from = 133 - c.from-from.result in
    let size = ap length (whole_rest c.args.offered.now from) ∙ length-drop from c.args.offered.now in
    record {
      there = omega (arith, size, short k, c.if-offered-le-PLACES.false);
      low = (next k).short;
      fits = omega (arith, size, (next k).all_taken, c.well_formed);
    }

pub returns : goal.returns
returns c =
    let s = c.take_piece-answer.new.reader in
    let rest = whole_rest c.args.offered.now (133 - c.from-from.result) ∙ ap (λ (n : ℕ). drop (133 - n) c.args.offered.now) c.from-from.ensures in
    c.turn_of-2.ensures
    ∙ ap (λ (l : List ℕ). open_call s (later c.in-More.taken (call_on s l))) rest
    ∙ (next (goal.at.returns c).In-More).whole
