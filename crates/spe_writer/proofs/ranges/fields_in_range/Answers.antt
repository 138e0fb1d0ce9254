-- `spe_writer::ranges::fields_in_range` meets its contract: its tests are the rules, one by one and in their order.
-- Assumes nothing.
use Rattle.rules.specs.Status.{fields_in_range}
use Rattle.spe_writer.proofs.ranges.fields_in_range.Goals as goal

pub returns : goal.returns
unfolding fields_in_range
returns c = cc
