-- `row_stream::short_ways::going::goes_on` meets its contract: of a report or a sentence that goes on, the first start
-- stays undecided.
-- Assumes nothing.
use native.Mathlib.Omega.{arith}
use Rattle.row_stream.proofs.Begun.{report_goes_on, sentence_goes_on}
use Rattle.row_stream.proofs.short_ways.going.goes_on.Goals as goal

pub returns-in-1 : goal.returns-in-1
returns-in-1 c told = report_goes_on c.args.reader.now c.args.others.now (omega arith) c.in-1.is (c.report_goes_on.ensures told)

pub returns-in-2 : goal.returns-in-2
returns-in-2 c told = sentence_goes_on c.args.reader.now c.args.others.now (omega arith) c.in-2.is (c.sentence_goes_on.ensures told)
