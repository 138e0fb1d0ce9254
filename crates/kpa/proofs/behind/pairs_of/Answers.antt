-- What is left to show of `kpa::behind::pairs_of`, with the invariant beside. Assumes nothing.
use mathlib.Core.Path.{◌≡◌, sym, ◌∙◌}
use mathlib.Core.Bool.{true, false}
use mathlib.Core.Logic.{⊎_elim}
use native.Mathlib.Omega.{arith}
use lib.ListN.{length-set}
use Prim.Native.Nat.{◌*◌}
use Rattle.std.specs.Prelude.{Some, None, length}
use Rattle.texts.specs.Numbers.{digits_in}
use Rattle.rules.specs.Bytes.{part}
use Rattle.rules.specs.Messages.{are_pairs}
use Rattle.frame_laws.proofs.Bytes.{answer}
use Rattle.frame_laws.proofs.Pairs.{pairs_length}
use Rattle.kpa.proofs.Responses.{other_mark, no_pair, one_pair, all_pairs, pair_none, digits_some, stored}
use Rattle.kpa.proofs.behind.pairs_of.Goals as goal

pub returns-then-t-marks : goal.returns-then-t-marks
returns-then-t-marks c =
    let marks = c.args.marks.now in
    let t = c.args.t.now in
    ⊎_elim
    (λ (e : are_pairs marks t ≡ true). absurd (c.if-t-marks.true (pairs_length marks t e)))
    (λ (e : are_pairs marks t ≡ false). e)
    (answer (are_pairs marks t))

pub returns-then-t-k : goal.returns-then-t-k
returns-then-t-k c = other_mark c.args.marks.now c.args.t.now c.loop-k.k c.loop-k.invariant.so_far (omega arith) c.if-t-k.true

pub returns-in_err-numbers : goal.returns-in_err-numbers
returns-in_err-numbers c =
    let t = c.args.t.now in
    let k = c.loop-k.k in
    let none : None ≡ digits_in (part (3 * k) 2 t) = sym c.in_err-numbers.was ∙ c.pair_at.ensures in
    rw c.from_residual.ensures (no_pair c.args.marks.now t k c.loop-k.invariant.so_far (omega arith) (pair_none t (3 * k) (omega arith) none))

pub loop-k-preserved : goal.loop-k-preserved
loop-k-preserved c =
    let t = c.args.t.now in
    let k = c.loop-k.k in
    let some : Some c.in_ok-numbers.field-0 ≡ digits_in (part (3 * k) 2 t) = sym c.in_ok-numbers.was ∙ c.pair_at.ensures in
    let pair = digits_some (part (3 * k) 2 t) some in record {
      so_far = one_pair c.args.marks.now t k c.loop-k.invariant.so_far (omega arith) pair.0 (omega arith);
      first = stored c.loop-k.numbers t k _ (omega (arith, c.loop-k.invariant.places)) pair.1 c.loop-k.invariant.first;
      places = rw length-set c.loop-k.invariant.places;
    }

pub returns-in_err-numbers-2 : goal.returns-in_err-numbers-2
returns-in_err-numbers-2 c =
    let marks = c.args.marks.now in
    let t = c.args.t.now in
    let k = c.loop-k.k in
    let all : k ≡ length marks = omega arith in
    let none : None ≡ digits_in (part (3 * k) 2 t) = rw all (sym c.in_err-numbers-2.was ∙ c.pair_at-2.ensures) in
    rw c.from_residual-in_err-numbers-2.ensures
    (all_pairs marks t k c.loop-k.invariant.so_far (omega arith) (omega arith) ∙ pair_none t (3 * k) (omega arith) none)

pub returns : goal.returns
returns c =
    let marks = c.args.marks.now in
    let t = c.args.t.now in
    let k = c.loop-k.k in
    let all : k ≡ length marks = omega arith in
    let some : Some c.in_ok-numbers-2.field-0 ≡ digits_in (part (3 * k) 2 t) = rw all (sym c.in_ok-numbers-2.was ∙ c.pair_at-2.ensures) in
    let pair = digits_some (part (3 * k) 2 t) some in
    let numbers = stored c.loop-k.numbers t k _ (omega (arith, c.loop-k.invariant.places)) pair.1 c.loop-k.invariant.first in (
      all_pairs marks t k c.loop-k.invariant.so_far (omega arith) (omega arith) ∙ pair.0,
      λ j h. rw (← all) (numbers j (omega arith)),
    )
