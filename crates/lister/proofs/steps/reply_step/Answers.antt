-- `lister::steps::reply_step` meets its contract: by the byte in the count's place, none starts here, or none at the next three, and
-- where it is no count, none from there on to where a count or a mark stands.
-- Assumes nothing.
use mathlib.Core.Path.{refl, ap, ◌∙◌}
use native.Mathlib.Omega.{arith}
use Rattle.stream_laws.proofs.Lists.{whole_rest}
use Rattle.lister.specs.GoodLengths.{good_length}
use Rattle.lister.proofs.Skips.{over_mark, over_four, further}
use Rattle.lister.proofs.steps.reply_step.Goals as goal

pub returns-then-s-at : goal.returns-then-s-at
returns-then-s-at c = (omega arith, over_mark 1 refl _ _ (omega (arith, c.requires)) c.if-s-at.true)

pub returns-then-s-at-eq-CODE_COUNT : goal.returns-then-s-at-eq-CODE_COUNT
returns-then-s-at-eq-CODE_COUNT c = (
  omega arith,
  over_four 1 refl _ _ (omega (arith, c.requires)) c.if-s-at.false (c.in-None.ensures ∙ ap (good_length 1) (whole_rest c.args.s.now c.args.at)),
)

pub returns-else-s-at-eq-REPORT_COUNT : goal.returns-else-s-at-eq-REPORT_COUNT
returns-else-s-at-eq-REPORT_COUNT c = (
  omega (arith, c.past_uncounted.ensures.on),
  further 1 _ _ _ _ (over_four 1 refl _ _ (omega (arith, c.requires)) c.if-s-at.false (c.in-None.ensures ∙ ap (good_length 1) (whole_rest c.args.s.now c.args.at)))
      c.past_uncounted.ensures,
)
