-- `row_stream::short_ways::row_search::first_stop` meets its contract: a whole report is a stop.
-- Assumes nothing.
use Rattle.spe.proofs.Beginning.{begun}
use Rattle.search.proofs.Searching.{begun_whole}
use Rattle.row_stream.proofs.short_ways.row_search.first_stop.Goals as goal

pub returns-then-begun : goal.returns-then-begun
returns-then-begun c =
    let b = c.requires c.if-begun.true in
    rw (b.0.0, c.report_length.ensures) (begun_whole _ (begun _ b.0.1) b.1)
