-- `row_stream::short_ways::row_search::seek_row` meets its contract: a report that is not whole waits, and else the walk
-- has come to what is sought.
-- Assumes nothing.
use Rattle.std.proofs.Common.{◌<◌, length, arith, refl, ap, ◌∙◌}
use borrow.Author.Tests.{ltb-true}
use Rattle.std.specs.Prelude.{None}
use lib.Dec.{ltb}
use Rattle.rules.specs.Status.{report_length_in}
use Rattle.frame_laws.proofs.Bytes.{both}
use Rattle.rows.specs.Rows.{front}
use Rattle.spe.proofs.Beginning.{begun}
use Rattle.search.specs.Sought.{Stops}
use Rattle.row_stream.specs.RowSought.{stop_of, row_of}
use Rattle.search.specs.declared.Sought.{Sought}
use Rattle.search.proofs.Searching.{waiting, begun_waits}
use Rattle.row_stream.proofs.short_ways.row_search.seek_row.Goals as goal

pub returns-then-begun-s : goal.returns-then-begun-s
returns-then-begun-s c =
    let a = c.args in
    let r = a.reader.now in
    let s = a.s.now in
    let tests = both c.report_begun-begun.result (ltb (length s) c.report_length.result) c.if-begun-s.true in
    let report = c.report_begun-begun.ensures tests.0 in
    let few : length s < report_length_in s = omega (arith, ltb-true (length s) c.report_length.result tests.1, c.report_length.ensures) in
    let stops : Stops r.family s 0 0 (record { at = 0; length = None; reach = 0 }) = rw report.0 (begun_waits s (begun s report.1) few) in
    let is = waiting r.family s _ stops refl in
    let waits = c.lay_waiting.ensures in
    record {
      found = waits.found ∙ ap (stop_of (length s) r.count) is;
      laid = waits.laid ∙ ap (λ (x : Sought). front (row_of r (length s) x) a.numbers.now) is;
    }
