-- What is left to show of `alpha::fields::row`, with the invariant beside. Assumes nothing.
use Rattle.std.proofs.Common.{arith, length-set}
use Rattle.alpha.proofs.Rows.{no_text, no_value, one_more, whole}
use Rattle.alpha.proofs.fields.row.Goals as goal

pub returns-in_err-text : goal.returns-in_err-text
returns-in_err-text g c = rw c.from_residual.ensures (no_text c.loop-k.invariant.so_far (omega arith) c.in_err-text.ensures)

pub returns-in_err-values : goal.returns-in_err-values
returns-in_err-values g c =
    rw c.from_residual-in_err-values.ensures
    (no_value c.loop-k.invariant.so_far (omega arith) c.in_ok-text.ensures (c.requires.1.1.1.1 _ _ _ c.in_err-values.ensures))

pub loop-k-preserved : goal.loop-k-preserved
loop-k-preserved g c = record {
  so_far =
      one_more c.loop-k.invariant.so_far (omega arith) c.in_ok-text.behind.now c.in_ok-text.ensures
      (c.requires.1.1.1.1 _ _ _ c.in_ok-values.ensures) (omega (arith, c.loop-k.invariant.room));
  room = simp length-set c.loop-k.invariant.room;
  callable = c.loop-k.invariant.callable;
}

pub returns : goal.returns
returns g c = whole c.loop-k.invariant.so_far (omega arith) c.loop-k.invariant.room
