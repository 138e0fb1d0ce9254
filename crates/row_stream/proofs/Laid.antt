-- A call that hands out a frame, or wants more, with the row of that, where there is room for every row.
-- Assumes nothing.
use Prim.Native.Nat.{ℕ, ◌≤◌}
use Rattle.stream_rules.specs.declared.Progress.TheVariants.{More, Ready}
use Rattle.std.specs.Prelude.{Ok}
use mathlib.Core.Path.{◌≡◌}
use mathlib.Core.List.{List}
use native.Mathlib.Omega.{arith}
use lib.IntN.{ℤ}
use lib.ListN.{length}
use Rattle.stream_rules.specs.Streams.{fed}
use Rattle.stream_rules.specs.declared.Reader.{Reader}
use Rattle.stream_rules.specs.declared.Ready.{Ready as HandedOut}
use Rattle.rows.specs.Rows.{longest_row, row, row_without, front}
use Rattle.rows.proofs.Lengths.{row_fits}
use Rattle.rows.proofs.Outcomes.{at_the_front, lays}
use Rattle.row_stream.specs.FedRows.{FeedsRow}

module _ (reader : Reader) (offered : List ℕ) (numbers after : List ℤ) (room : longest_row ≤ length numbers) (r : Reader) where
  pub with_frame : (h : HandedOut) → fed reader offered ≡ record { reader = r; answer = Ok (Ready h) }
      → after ≡ front (row h.taken h.start h.skipped h.length h.frame) numbers → FeedsRow reader offered numbers 0 r after
  with_frame h e stands = record {
    lays = rw e (lays (at_the_front (omega (arith, room, row_fits h.taken h.start h.skipped h.length h.frame)) stands));
    leaves = rw e;
  }

  pub wanting : (n : ℕ) → fed reader offered ≡ record { reader = r; answer = Ok (More n) } → after ≡ front (row_without 5 n) numbers → FeedsRow reader offered numbers 0 r after
  wanting n e stands = record {
    lays = rw e (lays (at_the_front (omega (arith, room)) stands));
    leaves = rw e;
  }
