-- `alpha::fields::degrees_in` meets its contract: its tests are those of a temperature, and its count, which is at most
-- 9999, is that of the digits on both sides of the point. Assumes nothing.
use Rattle.std.proofs.Common.{sym, ◌∙◌, arith}
use Rattle.alpha.proofs.Temperatures.{too_short, too_long, no_sign, no_point, no_whole, no_tenth, small, minus_fits, plus, minus}
use Rattle.alpha.proofs.fields.degrees_in.Goals as goal
use Rattle.alpha.proofs.fields.degrees_in.Goals.{then-n-lt4-via-then-n-lt4, then-n-lt4-via-else-n-lt4+then-n-gt6, then-not-one_of-via-then-not-one_of, then-not-one_of-via-else-not-one_of+then-t-n-ne46}

pub returns-then-n-lt4 : goal.returns-then-n-lt4
returns-then-n-lt4 c =
    elim c.then-n-lt4.branch [
      | then-n-lt4-via-then-n-lt4 w ↦ too_short _ w.if-n-lt4.true
      | then-n-lt4-via-else-n-lt4+then-n-gt6 w ↦ too_long _ w.if-n-gt6.true
    ]

pub returns-then-not-one_of : goal.returns-then-not-one_of
returns-then-not-one_of c =
    elim c.then-not-one_of.branch [
      | then-not-one_of-via-then-not-one_of w ↦ no_sign c.args.t.now (sym c.one_of.ensures ∙ w.if-not-one_of.true)
      | then-not-one_of-via-else-not-one_of+then-t-n-ne46 w ↦ no_point c.args.t.now w.if-t-n-ne46.true
    ]

pub returns-in_err-whole : goal.returns-in_err-whole
returns-in_err-whole c = c.from_residual.ensures ∙ no_whole c.args.t.now c.if-n-lt4.false c.if-n-gt6.false c.in_err-whole.ensures

pub returns-in_err-tenth : goal.returns-in_err-tenth
returns-in_err-tenth c =
    c.from_residual-in_err-tenth.ensures ∙ no_tenth c.args.t.now c.if-n-lt4.false c.if-n-gt6.false c.in_err-tenth.ensures

pub overflow_mul-tenths : goal.overflow_mul-tenths
overflow_mul-tenths c =
    omega (arith, small c.args.t.now c.if-n-lt4.false c.if-n-gt6.false c.in_ok-whole.ensures c.in_ok-tenth.ensures)

pub overflow_add-tenths : goal.overflow_add-tenths
overflow_add-tenths c =
    omega (arith, small c.args.t.now c.if-n-lt4.false c.if-n-gt6.false c.in_ok-whole.ensures c.in_ok-tenth.ensures)

pub overflow_cast-tenths : goal.overflow_cast-tenths
overflow_cast-tenths c =
    let h = small c.args.t.now c.if-n-lt4.false c.if-n-gt6.false c.in_ok-whole.ensures c.in_ok-tenth.ensures in
    record { sfits = omega arith }

pub overflow_sub-result : goal.overflow_sub-result
overflow_sub-result c = minus_fits c.args.t.now c.if-n-lt4.false c.if-n-gt6.false c.in_ok-whole.ensures c.in_ok-tenth.ensures

pub returns-then-t-eq45 : goal.returns-then-t-eq45
returns-then-t-eq45 c =
    minus c.args.t.now c.if-n-lt4.false c.if-n-gt6.false c.in_ok-whole.ensures c.in_ok-tenth.ensures
    (sym c.one_of.ensures ∙ c.if-not-one_of.false) c.if-t-n-ne46.false c.if-t-eq45.true

pub returns-else-t-eq45 : goal.returns-else-t-eq45
returns-else-t-eq45 c =
    plus c.args.t.now c.if-n-lt4.false c.if-n-gt6.false c.in_ok-whole.ensures c.in_ok-tenth.ensures
    (sym c.one_of.ensures ∙ c.if-not-one_of.false) c.if-t-n-ne46.false c.if-t-eq45.false
