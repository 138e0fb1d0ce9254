-- `rows::laying::lay_values` meets its contract: the heading is laid in the first six places, and the values behind them.
-- Assumes nothing.
use lib.ListN.{length-map}
use Rattle.rows.specs.Headings.{heading_of}
use Rattle.rows.proofs.Laid.{heading_and_values}
use Rattle.rows.proofs.laying.lay_values.Goals as goal

pub returns : goal.returns
returns g c =
    let parts = c.split_at_mut-front.ensures in
    rw (rw c.numbers.ensures at c.put.ensures, c.put-2.ensures)
    (heading_and_values (heading_of c.args.heading) _ _ _ _ (length-map c.args.values.now g.T.RowNumber.number) c.if-behind-values.false parts.back parts.back_len)
