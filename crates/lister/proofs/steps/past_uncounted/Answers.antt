-- What is left to show of `lister::steps::past_uncounted`, with the invariants beside: where another byte stands in the count's place,
-- no reply starts there, nor at the next three.
-- Assumes nothing.
use mathlib.Core.Path.{refl}
use native.Mathlib.Omega.{arith}
use lib.ListN.{drop}
use lib.Seq.{get_or-drop}
use Rattle.stream_laws.proofs.PacketStarts.{needs_none}
use Rattle.lister.proofs.Packets.{not-allowed}
use Rattle.lister.proofs.Skips.{nothing_passed, over_four, further}
use Rattle.lister.proofs.steps.past_uncounted.Goals as goal

pub loop-at-init : goal.loop-at-init
loop-at-init c = nothing_passed _ _ _ c.requires

pub loop-at-preserved : goal.loop-at-preserved
loop-at-preserved c =
    let byte = get_or-drop c.loop-at.at c.args.s.now 3 0 in
    further 1 _ _ _ _ c.loop-at.invariant
    (over_four 1 refl _ _ (omega arith) (λ e. omega (arith, e))
    (not-allowed _ 1 refl (needs_none 1 (drop c.loop-at.at c.args.s.now) (λ p. omega (arith, byte, p)) (λ one p. omega (arith, byte, p)))))
