-- `spe::status::is_status` meets its contract: a good frame around good data.
-- Assumes nothing.
use Prim.Native.Nat.{ℕ}
use mathlib.Core.Path.{◌≡◌, sym, ap, ◌∙◌}
use mathlib.Core.Bool.{Bool, true, false, ◌&&◌, and_assoc, and-true}
use mathlib.Core.List.{List}
use borrow.Author.Tests.{le-leb}
use lib.ListN.{length}
use Rattle.rules.specs.Bytes.{same}
use Rattle.rules.specs.Status.{comma_in, data_of, joined, cut, widths, readable, fields_in_range, status_in_range, status_of, status_in, is_status}
use Rattle.frame_laws.proofs.Comma.{at_most_one}
use Rattle.spe.specs.ReportTests.{data_good}
use Rattle.spe.proofs.ReportFrames.{framed, framed_data}
use Rattle.spe.proofs.status.is_status.Goals as goal

grouped : (a b c d : Bool) → (a && b && c && d) ≡ (a && (b && c && d))
grouped a b c d = simp and_assoc

-- the record of some bytes has one of the two forms, so it is in range by its fields
in-range : (s : List ℕ) → status_in_range (status_in s) ≡ fields_in_range (status_of 0 (data_of s))
unfolding status_in_range fields_in_range status_of
in-range s = rw (le-leb (comma_in s) 1 (at_most_one s)) (and-true (fields_in_range (status_in s)))

-- by the test of the frame
by_frame : (s : List ℕ) (b : Bool) → framed s ≡ b → is_status s ≡ (b && data_good (data_of s))
unfolding is_status data_good
by_frame s b e =
    let d = data_of s in
    (λ i. e i && same d (joined (cut 0 widths d)) && readable d && in-range s i)
    ∙ grouped b (same d (joined (cut 0 widths d))) (readable d) (fields_in_range (status_of 0 d))

pub returns-then-not-is_report : goal.returns-then-not-is_report
returns-then-not-is_report c = sym (by_frame _ false (sym c.is_report.ensures ∙ c.if-not-is_report.true))

pub is_data-requires : goal.is_data-requires
is_data-requires c = ap length c.text.ensures.content ∙ framed_data _ (sym c.is_report.ensures ∙ c.if-not-is_report.false)

pub returns : goal.returns
returns c =
    c.is_data.ensures ∙ ap data_good c.text.ensures.content
    ∙ sym (by_frame _ true (sym c.is_report.ensures ∙ c.if-not-is_report.false))
