-- What is left to show of `texts::parts::sum`, with the invariant beside. Assumes nothing.
use Rattle.std.proofs.Common.{◌≡◌, ℕ, ◌+◌, ◌<◌, ◌≤◌, List, length, get_or, drop, ap, arith}
use Rattle.rules.specs.Bytes.{total}
use Rattle.texts.proofs.Steps.{at, done}
use Rattle.texts.proofs.parts.sum.Goals as goal

more : (s : List ℕ) (i : ℕ) → i < length s → total (drop i s) ≡ get_or s i 0 + total (drop (i + 1) s)
unfolding total
more s i h = ap total (at s i h)

ended : (s : List ℕ) (i : ℕ) → length s ≤ i → total (drop i s) ≡ 0
unfolding total
ended s i h = ap total (done s i h)

pub loop-b-preserved : goal.loop-b-preserved
loop-b-preserved c = omega (arith, more c.args.s.now c.loop-b.b-index c.loop-b-test.true)

pub returns : goal.returns
returns c = omega (arith, ended c.args.s.now c.loop-b.b-index c.loop-b-test.false)
