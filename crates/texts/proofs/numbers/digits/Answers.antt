-- What is left to show of `texts::numbers::digits`, with the invariant beside. Assumes nothing.
use Rattle.std.proofs.Common.{◌+◌, ◌*◌, ◌<◌, arith, rules, sym, ◌∙◌, ap, drop}
use Rattle.rules.specs.Numbers.{decimal_from}
use Rattle.texts.proofs.DigitRows.{too_short, too_long, broken, a_row, one_more, not_all, read_on, all_read, end_read, small, grown}
use Rattle.texts.proofs.numbers.digits.Goals as goal
use Rattle.texts.proofs.numbers.digits.Goals.{then-is_empty-via-then-is_empty, then-is_empty-via-else-is_empty+then-t-gt9}

pub returns-then-is_empty : goal.returns-then-is_empty
returns-then-is_empty c =
    elim c.then-is_empty.branch [
      | then-is_empty-via-then-is_empty w ↦ too_short _ (search rules)
      | then-is_empty-via-else-is_empty+then-t-gt9 w ↦ too_long _ w.if-t-gt9.true
    ]

pub returns-then-not-is_ascii_digit : goal.returns-then-not-is_ascii_digit
returns-then-not-is_ascii_digit c =
    broken _ (c.loop-b.invariant.digits ∙ not_all _ _ c.loop-b-test.true (search rules))

pub overflow_mul-count : goal.overflow_mul-count
overflow_mul-count c = omega (arith, small c.loop-b.invariant.small (omega arith))

pub overflow_add-count : goal.overflow_add-count
overflow_add-count c = let h : c.from.result < 10 = search rules in omega (arith, small c.loop-b.invariant.small (omega arith))

pub loop-b-preserved : goal.loop-b-preserved
loop-b-preserved c =
    let h : c.from.result < 10 = search rules in record {
      digits = c.loop-b.invariant.digits ∙ one_more _ _ c.loop-b-test.true (search rules);
      number =
          c.loop-b.invariant.number ∙ read_on _ _ c.loop-b-test.true _
          ∙ ap (λ d. decimal_from (c.loop-b.count * 10 + d) (drop (c.loop-b.b-index + 1) c.args.t.now)) (sym c.from.ensures);
      small = grown c.loop-b.b-index c.loop-b.invariant.small (omega arith);
    }

pub returns : goal.returns
returns c =
    rw (← end_read _ _ c.loop-b-test.false c.loop-b.count, ← c.loop-b.invariant.number)
    (a_row _ (search rules) (omega arith) (c.loop-b.invariant.digits ∙ all_read _ _ c.loop-b-test.false))
