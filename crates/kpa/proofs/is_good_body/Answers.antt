-- `kpa::is_good_body` meets its contract: a run of letters begins with one, more of them than a number holds are none of the
-- listed ones, and what the others allow is told good or not.
-- Assumes nothing.
use mathlib.Core.Path.{refl, sym, ap, ◌∙◌}
use mathlib.Core.Bool.{Bool, ◌&&◌}
use native.Mathlib.Omega.{arith}
use Rattle.rules.specs.Messages.{letters_in, as_letters}
use Rattle.rules.specs.Answers.{is_good, read_body}
use Rattle.kpa.proofs.Words.{some_letters, no_letters, lead_word, lead_count, lead_none, lead_any, lead_long, run_within, told, long_other}
use Rattle.kpa.proofs.is_good_body.Goals as goal

pub returns-in_default : goal.returns-in_default
returns-in_default c =
    let body = c.args.body.now in
    let many = lead_long body c.in_default.ensures in
    rw (some_letters body (omega arith)) (ap is_good (long_other body many))

pub returns-then-word-eq0 : goal.returns-then-word-eq0
returns-then-word-eq0 c =
    let body = c.args.body.now in
    sym (ap (λ (letter : Bool). letter && is_good (read_body body)) (no_letters body (lead_none body c.in-Some.ensures c.if-word-eq0.true)))

pub slice_bounds-is_good_behind-count : goal.slice_bounds-is_good_behind-count
slice_bounds-is_good_behind-count c = run_within c.args.body.now (lead_count c.args.body.now c.in-Some.ensures c.word_length.ensures)

pub slice_bounds-is_good_behind-start : goal.slice_bounds-is_good_behind-start
slice_bounds-is_good_behind-start c = run_within c.args.body.now (lead_count c.args.body.now c.in-Some.ensures c.word_length.ensures)

pub returns : goal.returns
returns c =
    let body = c.args.body.now in
    let lead = c.in-Some.ensures in
    c.is_good_behind.ensures (as_letters (letters_in body))
    ∙ rw (some_letters body (lead_any body lead c.if-word-eq0.false)) (ap is_good (told body (lead_count body lead c.word_length.ensures) (lead_word body lead) refl))
