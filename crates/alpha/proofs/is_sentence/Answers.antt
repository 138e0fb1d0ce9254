-- `alpha::is_sentence` meets its contract: a sentence is good where its payload is one at full width, or gives a
-- record or a number. Assumes nothing.
use Rattle.std.proofs.Common.{sym, ap, ◌∙◌}
use Rattle.rules.specs.Answers.{is_good}
use Rattle.alpha.proofs.Frames.{ok_good, no_sentence, numbered, a_sentence}
use Rattle.alpha.proofs.is_sentence.Goals as goal

pub returns-in_default : goal.returns-in_default
returns-in_default c = ap is_good (no_sentence _ c.in_default.ensures)

pub read_payload-requires : goal.read_payload-requires
read_payload-requires c = rw c.in-Some.ensures.1 (numbered _ c.in-Some.ensures.0)

pub returns-then-is_full : goal.returns-then-is_full
returns-then-is_full c =
    c.if-is_full.true
    ∙ sym (c.is_full.ensures c.if-is_full.true)
    ∙ ap is_good (rw c.in-Some.ensures.1 (a_sentence _ c.in-Some.ensures.0))

pub returns-else-is_full : goal.returns-else-is_full
returns-else-is_full c =
    c.is_ok.ensures.value
    ∙ ok_good c.read_payload.result
    ∙ ap is_good (c.read_payload.ensures ∙ rw c.in-Some.ensures.1 (a_sentence _ c.in-Some.ensures.0))
