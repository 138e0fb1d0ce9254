-- What is left to show of `kpa::letters::word_of`, with the invariant beside. Assumes nothing.
use native.Mathlib.Omega.{arith}
use lib.ListN.{get_or}
use Rattle.rules.specs.Messages.{word_from}
use Rattle.texts.proofs.Steps.{at}
use Rattle.kpa.proofs.Steps.{grown, capital_fits}
use Rattle.kpa.proofs.letters.word_of.Goals as goal

pub loop-b-preserved : goal.loop-b-preserved
unfolding word_from
loop-b-preserved c =
    let letters = c.args.letters.now in
    let i = c.loop-b.b-index in
    let byte = capital_fits (get_or letters i 0) (omega (arith, c.type_inv.letters i)) in
    rw c.with_letter-word.ensures (rw (at letters i (omega arith)) at c.loop-b.invariant.0, grown i c.loop-b.invariant.1 byte)
