-- `lister::steps::may_begin` meets its contract: the test of the family picks what may begin a frame.
-- Assumes nothing.
use Prim.Native.Nat.{ℕ}
use mathlib.Core.Path.{ap, sym, ◌∙◌}
use Rattle.lister.specs.GoodLengths.{good_length}
use Rattle.lister.proofs.Families.{sentences_else}
use Rattle.lister.proofs.steps.may_begin.Goals as goal

pub returns-then-family-eq-MESSAGES : goal.returns-then-family-eq-MESSAGES
returns-then-family-eq-MESSAGES c = λ e. c.may_be_message.ensures e ∙ ap (λ (family : ℕ). good_length family c.args.s.now) (sym c.if-family-eq-MESSAGES.true)

pub returns : goal.returns
returns c =
    let two = sentences_else _ c.requires c.if-family-eq-MESSAGES.false in
    λ e. c.may_be_sentence.ensures e ∙ ap (λ (family : ℕ). good_length family c.args.s.now) (sym two)
