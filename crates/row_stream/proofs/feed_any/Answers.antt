-- `row_stream::feed_any` meets its contract: where there was room for every row and the row was not laid, the call was
-- refused, and left the reader as it was.
-- Assumes nothing.
use Rattle.std.proofs.Common.{sym, ◌∙◌}
use Rattle.rows.proofs.AnyRefusals.{of_the_eight}
use Rattle.row_stream.proofs.Fed.{not_laid, as_it_was}
use Rattle.row_stream.proofs.Told.{some_refused}
use Rattle.row_stream.proofs.feed_any.Goals as goal
use Rattle.row_stream.proofs.feed_any.Goals.{then-numbers-lt-LONGEST_ROW, else-numbers-lt-LONGEST_ROW}

pub returns-in_default : goal.returns-in_default
returns-in_default c =
    let some = some_refused c.lay_answer-laid.result (sym c.is_err.ensures.value ∙ c.if-is_err.true) in
    let fed = c.feed.ensures in
    let row = of_the_eight c.feed.result _ _ _ c.lay_answer-laid.ensures in
    elim c.if-numbers-lt-LONGEST_ROW.branch [
      | then-numbers-lt-LONGEST_ROW w ↦ absurd (c.in_default.not-Some _ w.was-is)
      | else-numbers-lt-LONGEST_ROW w ↦
          not_laid _ _ _ _ _ _ fed row some _ (as_it_was _ _ _ _ _ _ fed row some w.if-numbers-lt-LONGEST_ROW.false)
    ]
