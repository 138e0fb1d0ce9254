-- What is left to show of `kpa_writer::put_pairs`, with the invariant beside. Assumes nothing.
use Prim.Native.Nat.{◌+◌, ◌*◌, ◌≤◌}
use mathlib.Core.Path.{◌≡◌, sym, ◌∙◌}
use native.Mathlib.Omega.{arith}
use lib.ListN.{length, get_or, drop, take-append-drop}
use Rattle.texts.proofs.Steps.{at, done}
use Rattle.kpa_writer.specs.Pairs.{pairs_over}
use Rattle.kpa_writer.proofs.Pairs.{one_laid}
use Rattle.kpa_writer.proofs.put_pairs.Goals as goal

pub loop-k-preserved : goal.loop-k-preserved
loop-k-preserved c =
    let numbers = c.args.numbers.now in
    let t = c.loop-k.t in
    let k = c.loop-k.k in
    let places : 3 * (k + 1) ≡ 3 * k + 3 = omega arith in
    let room : 3 * k + 2 ≤ length t = omega arith in
    rw (places, one_laid t (3 * k) (get_or numbers k 0) room (drop (k + 1) numbers), ← at numbers k (omega arith)) c.loop-k.invariant

pub returns : goal.returns
unfolding pairs_over
returns c =
    let k = c.loop-k.k in
    sym (take-append-drop (3 * k) c.loop-k.t) ∙ rw (done c.args.numbers.now k (omega arith)) at c.loop-k.invariant
