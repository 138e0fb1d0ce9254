-- `kpa::read_message` meets its contract: a message has a body, which is read. Assumes nothing.
use mathlib.Core.Path.{sym, ◌∙◌}
use Rattle.rules.specs.Answers.{read_one}
use Rattle.frame_laws.proofs.Saying.{reads}
use Rattle.kpa.proofs.Frames.{no_message, a_message}
use Rattle.kpa.proofs.read_message.Goals as goal

pub returns-then-not-is_framed : goal.returns-then-not-is_framed
unfolding read_one
returns-then-not-is_framed c = reads (no_message _ (sym c.if-not-is_framed.ensures))

pub returns : goal.returns
unfolding read_one
returns c = reads (c.read_body.ensures ∙ a_message _ (sym c.if-not-is_framed.ensures))
