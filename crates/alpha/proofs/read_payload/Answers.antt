-- `alpha::read_payload` meets its contract: the number is that of the two digits, and each record is read from the texts
-- behind it. Assumes nothing.
use Rattle.std.proofs.Common.{sym, ◌∙◌, arith}
use Rattle.alpha.proofs.Payloads.{the_number, is_number, number_small, behind, by02, by03, by05, as_other}
use Rattle.alpha.proofs.read_payload.Goals as goal

pub overflow_cast-result : goal.overflow_cast-result
overflow_cast-result c =
    omega (
      arith,
      the_number c.args.p.now c.requires.0 c.requires.1 c.in-Some.ensures,
      number_small c.args.p.now c.requires.0 c.requires.1,
    )

pub returns-in-Some-eq2 : goal.returns-in-Some-eq2
returns-in-Some-eq2 c =
    c.read02.ensures
    ∙ rw (behind c.args.p.now) (sym (by02 _ _ (sym (the_number c.args.p.now c.requires.0 c.requires.1 c.in-Some-eq2.ensures) ∙ c.in-Some-eq2.field-0-test)))

pub returns-in-Some-eq3 : goal.returns-in-Some-eq3
returns-in-Some-eq3 c =
    c.read03.ensures
    ∙ rw (behind c.args.p.now) (sym (by03 _ _ (sym (the_number c.args.p.now c.requires.0 c.requires.1 c.in-Some-eq3.ensures) ∙ c.in-Some-eq3.field-0-test)))

pub returns-in-Some-eq5 : goal.returns-in-Some-eq5
returns-in-Some-eq5 c =
    c.read05.ensures
    ∙ rw (behind c.args.p.now) (sym (by05 _ _ (sym (the_number c.args.p.now c.requires.0 c.requires.1 c.in-Some-eq5.ensures) ∙ c.in-Some-eq5.field-0-test)))

pub returns-in-Some : goal.returns-in-Some
returns-in-Some c =
    let n = the_number c.args.p.now c.requires.0 c.requires.1 c.in-Some.ensures in
    let other = c.in-Some.n-test in
    rw (← n) (sym (as_other _ _ other.0.0.1 other.0.1 other.1))

pub returns-in-None : goal.returns-in-None
returns-in-None c = absurd (is_number c.args.p.now c.requires.0 c.requires.1 c.in-None.ensures)
