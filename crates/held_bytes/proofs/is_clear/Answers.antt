-- What is left to show of `held_bytes::is_clear`, with the invariant beside. Assumes nothing.
use Rattle.std.proofs.Common.{below_more, eqb-true, arith}
use Rattle.held_bytes.proofs.Zeros.{both_zero, all_zeros}
use Rattle.held_bytes.proofs.is_clear.Goals as goal

pub loop-place-preserved : goal.loop-place-preserved
loop-place-preserved c none =
    let both = both_zero c.loop-place.seen _ none in
    below_more _ _ (c.loop-place.invariant both.0) both.1

pub returns : goal.returns
returns c clear = all_zeros c.args.places.now (omega arith) (λ k low. c.loop-place.invariant (eqb-true _ _ clear) k (omega arith))
