-- `alpha::fields::row` meets its contract. The loop's invariant: so many fields are read, and the rest stands behind them.
-- Assumes nothing.
use Rattle.std.proofs.Common.{◌≡◌, length}
use Rattle.rules.specs.Sentences.{behind_commas}
use Rattle.alpha.proofs.Rows.{Sofar}
use Rattle.alpha.proofs.fields.row.Given as goal

abbrev pub invariant-loop-k : goal.invariant-loop-k
invariant-loop-k g l = record {
  so_far : Sofar g.reads l.widths (behind_commas l.r) l.k l.values l.rest;
  room : length l.values ≡ length l.widths;
  callable : goal.F-IsAlwaysCallable g l.read;
}
