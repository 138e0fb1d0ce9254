-- `spe::read_reply` meets its contract: an acknowledgement, or else a report or nothing.
-- Assumes nothing.
use Prim.Native.Nat.{ℕ}
use Rattle.std.specs.Prelude.{Ok, Err, Some, None}
use mathlib.Core.Path.{◌≡◌}
use mathlib.Core.List.{List}
use Rattle.rules.specs.Answers.{read_one, read_family1}
use Rattle.rules.specs.declared.Frame.TheVariants.{Ack, Status}
use Rattle.rules.specs.declared.Status as StatusType
use Rattle.rules.specs.declared.Refusal.TheVariants.{NotGood}
use Rattle.frame_laws.proofs.Saying.{reads}
use Rattle.spe.specs.Packets.{ack_in}
use Rattle.spe.specs.Report.{report_in}
use Rattle.spe.proofs.Found.{found, not_found}
use Rattle.spe.proofs.read_reply.Goals as goal

module _ (s : List ℕ) where
  an_ack : (code : ℕ) → Some code ≡ ack_in s → Ok (Ack code) ≡ read_one 1 s
  unfolding read_one read_family1 ack_in
  an_ack code e = let f = found _ _ _ e in rw (f.0, f.1)

  a_report : (status : StatusType.Status) → None ≡ ack_in s → Some status ≡ report_in s → Ok (Status status) ≡ read_one 1 s
  unfolding read_one read_family1 ack_in report_in
  a_report status e d = let f = found _ _ _ d in rw (not_found _ _ e, f.0, f.1)

  no_reply : None ≡ ack_in s → None ≡ report_in s → Err NotGood ≡ read_one 1 s
  unfolding read_one read_family1 ack_in report_in
  no_reply e d = rw (not_found _ _ e, not_found _ _ d)

pub returns-in-Some : goal.returns-in-Some
returns-in-Some c = reads (an_ack _ _ c.in-Some.ensures)

pub returns-in-Some-report_in : goal.returns-in-Some-report_in
returns-in-Some-report_in c = reads (a_report _ _ c.in-None.ensures c.in-Some-report_in.ensures)

pub returns-in-None-report_in : goal.returns-in-None-report_in
returns-in-None-report_in c = reads (no_reply _ c.in-None.ensures c.in-None-report_in.ensures)
