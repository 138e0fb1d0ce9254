-- What is left to show of `kpa::letters::lead_of`, with the invariant beside. Assumes nothing.
use Prim.Native.Nat.{ℕ, ◌+◌, ◌*◌, ◌<◌}
use Rattle.std.specs.Prelude.{Some, None}
use mathlib.Core.Path.{◌≡◌, sym, ap}
use mathlib.Core.Bool.{true}
use mathlib.Core.List.{List, [], ◌∷◌}
use native.Mathlib.Omega.{arith}
use borrow.Author.Tests.{le-leb, lt-leb}
use lib.ListN.{length, drop, get_or}
use Rattle.rules.specs.Messages.{is_letter, capital, letter_run, word_from}
use Rattle.kpa.specs.Words.{lead_of}
use Rattle.kpa.proofs.Steps.{ends, goes_on, no_more, small, grown, capital_fits}
use Rattle.kpa.proofs.letters.lead_of.Invariants.{Read}
use Rattle.kpa.proofs.letters.lead_of.Goals as goal

module _ (body : List ℕ) (w i : ℕ) (r : Read body w i) where
  no_letter : letter_run (drop i body) ≡ [] → Some w ≡ lead_of body
  unfolding lead_of word_from
  no_letter e =
      let all : length (letter_run body) ≡ i = omega (arith, r.run, ap length e) in
      rw (all, le-leb i 4 r.few, r.so_far, e)

  module _ (there : i < length body) (letter : is_letter (get_or body i 0) ≡ true) where
    abbrev next : letter_run (drop i body) ≡ get_or body i 0 ∷ letter_run (drop (i + 1) body)
    next = goes_on body i there letter

    one_too_many : i ≡ 4 → None ≡ lead_of body
    unfolding lead_of
    one_too_many e = rw (lt-leb (length (letter_run body)) 4 (omega (arith, r.run, ap length next, e)))

    one_more : i < 4 → capital (get_or body i 0) < 256 → Read body (w * 256 + capital (get_or body i 0)) (i + 1)
    unfolding word_from
    one_more low byte = record {
      few = omega arith;
      fits = grown i r.fits byte;
      run = omega (arith, r.run, ap length next);
      so_far = rw next at r.so_far;
    }

pub returns-then-not-is_letter : goal.returns-then-not-is_letter
returns-then-not-is_letter c =
    let i = c.loop-count.count in
    no_letter c.args.body.now _ i c.loop-count.invariant (ends c.args.body.now i (omega arith) (sym c.if-not-is_letter.ensures))

pub returns-then-count-eq-WORD_LETTERS : goal.returns-then-count-eq-WORD_LETTERS
returns-then-count-eq-WORD_LETTERS c =
    one_too_many c.args.body.now _ c.loop-count.count c.loop-count.invariant (omega arith) (sym c.if-not-is_letter.ensures) (omega arith)

pub with_letter-word-requires : goal.with_letter-word-requires
with_letter-word-requires c = omega (arith, small c.loop-count.invariant.fits (omega (arith, c.loop-count.invariant.few)))

pub loop-count-preserved : goal.loop-count-preserved
loop-count-preserved c =
    let i = c.loop-count.count in
    let body = c.args.body.now in
    rw c.with_letter-word.ensures (one_more body _ i c.loop-count.invariant (omega arith) (sym c.if-not-is_letter.ensures) (omega (arith, c.loop-count.invariant.few)) (capital_fits (get_or body i 0) (omega (arith, c.type_inv.body i))))

pub returns : goal.returns
returns c =
    let body = c.args.body.now in
    no_letter body _ c.loop-count.count c.loop-count.invariant (no_more body c.loop-count.count (omega arith))
