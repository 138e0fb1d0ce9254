-- The length of a good command or reply at the head, by the tests of a frame as a whole: a command is six bytes, and the
-- count of a reply tells an acknowledgement, six bytes, from a report, which has as many as its form.
-- Assumes nothing.
use Prim.Native.Nat.{ℕ, ◌≤◌}
use mathlib.Core.Path.{◌≡◌, refl, sym, ◌∙◌}
use mathlib.Core.Bool.{Bool, true, false}
use Rattle.std.specs.Bool.{then_some}
use mathlib.Core.List.{List}
use native.Mathlib.Decide.{dec_le, ℕ_discrete}
use native.Mathlib.Omega.{arith}
use lib.ListN.{length, take, get_or}
use lib.Seq.{length-take-le}
use Rattle.std.specs.Prelude.{Some, None}
use Rattle.rules.specs.Answers.{is_good, read_one}
use Rattle.rules.specs.Codes.{is_ack, is_command}
use Rattle.rules.specs.Status.{report_length_in, is_status}
use Rattle.spe.specs.Ends.{ends_report}
use Rattle.spe.proofs.ReportFrames.{not_ended as no_end, whole_end}
use Rattle.stream_rules.specs.Heads.{is_spe, needs}
use Rattle.frames.proofs.Goods.{command_is, ack_is, report_is}
use Rattle.stream_laws.proofs.Heads.{good_head}
use Rattle.stream_laws.proofs.PacketStarts.{needs_packet, needs_report, needs_none}
use Rattle.search.proofs.Seeing.{counted}
use Rattle.lister.specs.GoodLengths.{good_length}
use Rattle.lister.proofs.GoodLengths.{length_none, not_declared, length_good, length_refused, length_tested}

module _ (bs : List ℕ) where
  -- a count that is not allowed: no frame
  pub not-allowed : (family : ℕ) → is_spe family ≡ true → needs family bs ≡ 0 → None ≡ good_length family bs
  not-allowed family spe none = length_none family bs (λ n f e. let g = good_head family bs n f e in omega (arith, g.some, g.declared ∙ counted family spe bs, none))

  -- six bytes that are a command, or are none
  command : 6 ≤ length bs → is_command (take 6 bs) ≡ true → Some 6 ≡ good_length 3 bs
  command there e = length_good 3 bs 6 there (command_is (take 6 bs) ∙ e)

  no_command : is_command (take 6 bs) ≡ false → None ≡ good_length 3 bs
  no_command e =
      elim (ℕ_discrete (get_or bs 3 0) 0x01) [
        | yes one ↦ length_refused 3 bs 6 (needs_packet 3 bs one) (command_is (take 6 bs) ∙ e)
        | no other ↦ not-allowed 3 refl (needs_none 3 bs other (λ p. omega (arith, p)))
      ]

  pub command_tested : 6 ≤ length bs → (b : Bool) → b ≡ is_command (take 6 bs) → then_some b 6 ≡ good_length 3 bs
  command_tested there true is = command there (sym is)
  command_tested there false is = no_command (sym is)

  -- six bytes that are an acknowledgement, or, with its count, are none
  module _ (there : 6 ≤ length bs) where
    six : is_good (read_one 1 (take 6 bs)) ≡ is_ack (take 6 bs)
    six = ack_is (take 6 bs) (omega (arith, length-take-le 6 bs there))

    pub ack_tested : get_or bs 3 0 ≡ 0x01 → (b : Bool) → b ≡ is_ack (take 6 bs) → then_some b 6 ≡ good_length 1 bs
    ack_tested one b is = length_tested 1 bs 6 there (needs_packet 1 bs one) b (is ∙ sym six)

  -- as many bytes as the form has, that are a report, or, with its count, are none
  abbrev own : List ℕ
  own = take (report_length_in bs) bs

  module _ (there : report_length_in bs ≤ length bs) where
    long : is_good (read_one 1 own) ≡ is_status own
    long = report_is own (omega (arith, length-take-le (report_length_in bs) bs there))

    pub report_tested : get_or bs 3 0 ≡ 0x43 → (b : Bool) → b ≡ is_status own → then_some b (report_length_in bs) ≡ good_length 1 bs
    report_tested count b is = length_tested 1 bs (report_length_in bs) there (needs_report 1 bs refl count) b (is ∙ sym long)

  -- and none where it does not end as one, or there are fewer bytes
  pub not_ended : get_or bs 3 0 ≡ 0x43 → ends_report bs ≡ false → None ≡ good_length 1 bs
  not_ended count e =
      elim (dec_le (report_length_in bs) (length bs)) [
        | yes there ↦ report_tested there count false (sym (no_end own (whole_end bs there ∙ e)))
        | no fewer ↦ length_none 1 bs (not_declared 1 bs (report_length_in bs) (needs_report 1 bs refl count) (omega arith))
      ]
