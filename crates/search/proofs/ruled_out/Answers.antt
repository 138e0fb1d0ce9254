-- `search::ruled_out` meets its contract: what fails its tests fails those of a good frame.
-- Assumes nothing.
use mathlib.Core.Path.{sym, ◌∙◌}
use native.Mathlib.Omega.{arith}
use borrow.Author.Tests.{not-true}
use Rattle.spe.proofs.ReportFrames.{not_ended}
use Rattle.frames.proofs.Goods.{command_is}
use Rattle.search.proofs.Soon.{no_report, no_ack}
use Rattle.search.proofs.ruled_out.Goals as goal

pub returns-then-s-ge-REPORT_LENGTH : goal.returns-then-s-ge-REPORT_LENGTH
returns-then-s-ge-REPORT_LENGTH c =
    λ fails. no_report _ c.requires _ c.if-s-ge-REPORT_LENGTH.true (not_ended _ (sym c.ends_report.ensures ∙ not-true _ fails))

pub returns-then-family-eq-COMMANDS : goal.returns-then-family-eq-COMMANDS
returns-then-family-eq-COMMANDS c = λ fails. rw c.if-family-eq-COMMANDS.true (command_is _ ∙ sym c.is_command.ensures ∙ not-true _ fails)

pub returns : goal.returns
returns c = λ fails. no_ack _ c.requires _ (omega arith) c.if-family-eq-COMMANDS.false (sym c.is_ack.ensures ∙ not-true _ fails)
