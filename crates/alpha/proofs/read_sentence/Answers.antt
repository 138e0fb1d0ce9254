-- `alpha::read_sentence` meets its contract: a sentence has a payload, which is read. Assumes nothing.
use Rattle.std.proofs.Common.{◌∙◌}
use Rattle.rules.specs.Answers.{read_one}
use Rattle.frame_laws.proofs.Saying.{reads}
use Rattle.alpha.proofs.Frames.{no_sentence, numbered, a_sentence}
use Rattle.alpha.proofs.read_sentence.Goals as goal

pub returns-in_default : goal.returns-in_default
unfolding read_one
returns-in_default c = reads (no_sentence _ c.in_default.ensures)

pub read_payload-requires : goal.read_payload-requires
read_payload-requires c = rw c.in-Some.ensures.1 (numbered _ c.in-Some.ensures.0)

pub returns : goal.returns
unfolding read_one
returns c = reads (c.read_payload.ensures ∙ rw c.in-Some.ensures.1 (a_sentence _ c.in-Some.ensures.0))
