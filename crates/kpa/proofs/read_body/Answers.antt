-- `kpa::read_body` meets its contract: the letters are those of the definition, and what they allow is read from the bytes
-- behind them; more letters than a number holds are none of the listed ones.
-- Assumes nothing.
use Prim.Native.Nat.{ℕ, ◌-◌}
use mathlib.Core.Path.{◌≡◌, sym, ◌∙◌}
use mathlib.Core.List.{List}
use native.Mathlib.Omega.{arith}
use lib.ListN.{length, take, drop}
use Rattle.rules.specs.Messages.{letters_in, word_letters, as_letters, behind}
use Rattle.rules.specs.Answers.{read_behind, read_body}
use Rattle.rules.specs.declared.Behind.{Behind}
use Rattle.frame_laws.proofs.Listed.{number_fits}
use Rattle.std.specs.Prelude.{Some}
use Rattle.kpa.specs.Words.{lead_of}
use Rattle.kpa.proofs.Words.{lead_word, lead_count, lead_long, run_within, told, long_other}
use Rattle.kpa.proofs.read_body.Goals as goal

-- what the body says, by what its letters allow
by_letters : (body : List ℕ) {w n : ℕ} {k : Behind} → Some w ≡ lead_of body → n ≡ length (word_letters w) → k ≡ behind w
    → read_behind w (as_letters (letters_in body)) k (take (length body - n) (drop n body)) ≡ read_body body
by_letters body lead count e = told body (lead_count body lead count) (lead_word body lead) (sym e)

pub returns-in_default : goal.returns-in_default
returns-in_default c = c.other.ensures ∙ long_other c.args.body.now (lead_long c.args.body.now c.in_default.ensures)

pub slice_bounds-rest-count : goal.slice_bounds-rest-count
slice_bounds-rest-count c = run_within c.args.body.now (lead_count c.args.body.now c.in-Some.ensures c.word_length.ensures)

pub slice_bounds-rest-start : goal.slice_bounds-rest-start
slice_bounds-rest-start c = run_within c.args.body.now (lead_count c.args.body.now c.in-Some.ensures c.word_length.ensures)

pub read_number-requires : goal.read_number-requires
read_number-requires c = omega (arith, number_fits _ _ _ (sym c.in-ANumber.ensures))

pub returns-in-ANumber : goal.returns-in-ANumber
returns-in-ANumber c = c.read_number.ensures ∙ by_letters c.args.body.now c.in-Some.ensures c.word_length.ensures c.in-ANumber.ensures

pub returns-in-AVersion : goal.returns-in-AVersion
returns-in-AVersion c = c.read_version.ensures ∙ by_letters c.args.body.now c.in-Some.ensures c.word_length.ensures c.in-AVersion.ensures

pub returns-in-AClock : goal.returns-in-AClock
returns-in-AClock c = c.read_clock.ensures ∙ by_letters c.args.body.now c.in-Some.ensures c.word_length.ensures c.in-AClock.ensures

pub returns-in-Alone : goal.returns-in-Alone
returns-in-Alone c = c.read_tune.ensures ∙ by_letters c.args.body.now c.in-Some.ensures c.word_length.ensures c.in-Alone.ensures

pub returns-in-Anything : goal.returns-in-Anything
returns-in-Anything c = c.other-in-Anything.ensures ∙ by_letters c.args.body.now c.in-Some.ensures c.word_length.ensures c.in-Anything.ensures
