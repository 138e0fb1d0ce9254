-- `spe::status::is_report` meets its contract: its tests are those of the bytes in front and behind. The sum of 67 bytes does
-- not wrap.
-- Assumes nothing.
use Prim.Native.Nat.{ℕ, ◌/◌, ◌%◌, ◌^◌}
use mathlib.Core.Path.{◌≡◌, sym, ap, ◌∙◌}
use mathlib.Core.Bool.{◌&&◌}
use mathlib.Core.List.{List}
use native.Mathlib.Nat.{mod-eq_of_lt}
use native.Mathlib.Omega.{arith}
use lib.Dec.{eqb}
use lib.ListN.{length, drop}
use Rattle.rules.specs.Bytes.{total}
use Rattle.rules.specs.Status.{data_of, report_length_in}
use Rattle.frame_laws.proofs.Lists.{AreBytes, bytes_take, bytes_drop, total_below}
use Rattle.spe.proofs.ReportFrames.{data-length, not_framed, bad_front, bad_ends, good_ends}
use Rattle.spe.proofs.status.is_report.Goals as goal

module _ (s : List ℕ) (h : length s ≡ report_length_in s) where
  -- the sum that was taken is the total itself
  exact : AreBytes s → (n : ℕ) → n ≡ total (data_of s) % 2 ^ 32 → n ≡ total (data_of s)
  exact b n e = e ∙ mod-eq_of_lt (omega (arith, total_below (data_of s) (bytes_take 67 (drop 4 s) (bytes_drop 4 s b)), data-length s h))

pub returns-then-s-report_length : goal.returns-then-s-report_length
returns-then-s-report_length c = sym (not_framed _ (λ e. c.if-s-report_length.true (e ∙ sym c.report_length.ensures)))

pub returns-then-not-begins_report : goal.returns-then-not-begins_report
returns-then-not-begins_report c =
    sym (bad_front _ (c.if-s-report_length.false ∙ c.report_length.ensures) (sym c.begins_report.ensures ∙ c.if-not-begins_report.true))

pub returns-then-not-ends_report : goal.returns-then-not-ends_report
returns-then-not-ends_report c =
    sym (bad_ends _ (c.if-s-report_length.false ∙ c.report_length.ensures) (sym c.ends_report.ensures ∙ c.if-not-ends_report.true))

pub returns : goal.returns
returns c =
    let s = c.args.s.now in
    let size : length s ≡ report_length_in s = c.if-s-report_length.false ∙ c.report_length.ensures in
    let data_is = ap (λ (l : List ℕ). total l % 2 ^ 32) c.text.ensures.content in
    let total_is = exact s size (λ k. (c.type_inv.s k).fits) _ (c.sum-sum.ensures ∙ data_is) in
    let begins = sym c.begins_report.ensures ∙ c.if-not-begins_report.false in
    let ends = sym c.ends_report.ensures ∙ c.if-not-ends_report.false in
    (λ i. eqb (c.from.ensures i) (total_is i % 256) && eqb (c.from-2.ensures i) (total_is i / 256))
    ∙ sym (good_ends s size begins ends)
