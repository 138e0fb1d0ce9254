-- `spe::ends::ends_report` meets its contract: its tests are those of the definition, behind the comma or where it would stand.
-- Assumes nothing.
use Prim.Native.Nat.{ℕ, ◌+◌, ◌≤◌, ◌<◌}
use mathlib.Core.Path.{◌≡◌, sym, ◌∙◌}
use mathlib.Core.Bool.{false, ◌&&◌}
use mathlib.Core.List.{List}
use native.Mathlib.Omega.{arith}
use borrow.Author.Tests.{le-leb, lt-leb}
use lib.Dec.{eqb}
use lib.ListN.{length, get_or}
use Rattle.rules.specs.Status.{comma_in, report_length_in}
use Rattle.spe.specs.Ends.{ends_report}
use Rattle.spe.proofs.ReportFrames.{by_bytes}
use Rattle.spe.proofs.ends.ends_report.Goals as goal

-- by the form that was seen
module _ (s : List ℕ) (n : ℕ) (seen : n ≡ comma_in s) where
  is_cut : length s < 75 + n → false ≡ ends_report s
  is_cut fewer = rw (lt-leb (report_length_in s) (length s) (omega (arith, seen)))

  is_whole : 75 + n ≤ length s → (eqb (get_or s (73 + n) 0) 0x0D && eqb (get_or s (74 + n) 0) 0x0A) ≡ ends_report s
  is_whole there =
      let whole : report_length_in s ≤ length s = omega (arith, seen) in
      rw (seen, le-leb (report_length_in s) (length s) whole) (sym (by_bytes s whole))

pub returns-then-s-comma : goal.returns-then-s-comma
returns-then-s-comma c = is_cut _ _ (c.from-comma.ensures ∙ c.comma_in.ensures) c.if-s-comma.true

pub returns : goal.returns
returns c =
    is_whole _ _ (c.from-comma.ensures ∙ c.comma_in.ensures) (omega (arith, c.if-s-comma.false))
