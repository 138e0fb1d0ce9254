-- `lister::steps::command_length` meets its contract: six bytes are a command, or there is none.
-- Assumes nothing.
use mathlib.Core.Path.{◌∙◌}
use Rattle.lister.proofs.Packets.{command_tested}
use Rattle.lister.proofs.steps.command_length.Goals as goal

pub returns : goal.returns
returns c = c.then_some.ensures ∙ command_tested c.args.s.now c.requires _ c.is_command.ensures
