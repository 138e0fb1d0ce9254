-- `lister::steps::reply_length` meets its contract: by the count, six bytes are an acknowledgement, as many as its form has are a
-- report, or there is none.
-- Assumes nothing.
use Prim.Native.Nat.{ℕ, ◌≤◌}
use mathlib.Core.Path.{◌≡◌, refl, sym, ap, ◌∙◌}
use mathlib.Core.Bool.{Bool, true}
use mathlib.Core.List.{List}
use native.Mathlib.Omega.{arith}
use borrow.Author.Tests.{leb-true}
use lib.ListN.{length, take, get_or}
use lib.Seq.{length-take-le}
use Rattle.rules.specs.Status.{report_length_in, is_status}
use Rattle.frame_laws.proofs.Bytes.{both_left}
use Rattle.spe.specs.Ends.{ends_report}
use Rattle.stream_laws.proofs.PacketStarts.{needs_none}
use Rattle.lister.proofs.Packets.{not-allowed, ack_tested, report_tested, not_ended}
use Rattle.lister.specs.GoodLengths.{good_length}
use Rattle.std.specs.Bool.{then_some}
use Rattle.lister.proofs.steps.reply_length.Goals as goal

-- as many bytes are there as its form has
there : (s : List ℕ) → ends_report s ≡ true → report_length_in s ≤ length s
there s ends = leb-true (report_length_in s) (length s) (both_left _ _ ends)

-- so the test of that many bytes is that of the report's own
tested : (s : List ℕ) (n : ℕ) → ends_report s ≡ true → get_or s 3 0 ≡ 0x43 → n ≡ report_length_in s → (b : Bool) → b ≡ is_status (take n s) → then_some b n ≡ good_length 1 s
tested s n ends count is b e =
    ap (then_some b) is ∙ report_tested s (there s ends) count b (e ∙ ap (λ (k : ℕ). is_status (take k s)) is)

pub returns-in-1 : goal.returns-in-1
returns-in-1 c = c.then_some.ensures ∙ ack_tested _ c.requires c.in-1.is _ c.is_ack.ensures

pub returns-then-not-ends_report : goal.returns-then-not-ends_report
returns-then-not-ends_report c = not_ended _ c.in-67.is (sym c.ends_report.ensures ∙ c.if-not-ends_report.true)

pub slice_bounds-is_status-end : goal.slice_bounds-is_status-end
slice_bounds-is_status-end c =
    sym (length-take-le c.report_length-n.result c.args.s.now
    (omega (arith, there c.args.s.now (sym c.ends_report.ensures ∙ c.if-not-ends_report.false), c.report_length-n.ensures)))

pub returns-else-not-ends_report : goal.returns-else-not-ends_report
returns-else-not-ends_report c =
    c.then_some-in-67.ensures
    ∙ tested c.args.s.now _ (sym c.ends_report.ensures ∙ c.if-not-ends_report.false) c.in-67.is c.report_length-n.ensures _ c.is_status.ensures

pub returns-in_default : goal.returns-in_default
returns-in_default c = not-allowed _ 1 refl (needs_none 1 c.args.s.now (λ p. omega (arith, p)) (λ one p. omega (arith, p)))
