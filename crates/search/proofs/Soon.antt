-- Bytes that are no good frame of an SPE family, and what they say of a head.
-- Assumes nothing.
use Prim.Native.Nat.{ℕ, ◌≤◌, ◌<◌}
use Rattle.rules.specs.Answers.{Read}
use Rattle.std.specs.Prelude.{Err, Ok}
use mathlib.Core.Path.{◌≡◌, refl, ◌∙◌}
use mathlib.Core.Bool.{true, false}
use mathlib.Core.List.{List}
use mathlib.Core.Logic.{⊎_elim}
use native.Mathlib.Omega.{arith}
use lib.ListN.{length}
use Rattle.rules.specs.Answers.{is_good, read_one}
use Rattle.rules.specs.Codes.{is_ack}
use Rattle.rules.specs.Status.{is_status}
use Rattle.spe.proofs.PacketFrames.{not_command}
use Rattle.frames.proofs.Goods.{command_is, ack_is, report_is}
use Rattle.stream_rules.specs.Heads.{is_spe, bad, head_of}
use Rattle.stream_laws.proofs.Numbers.{spe_cases}

module _ (family : ℕ) (spe : is_spe family ≡ true) (s : List ℕ) where
  -- at least 75 bytes that are no report, or fewer that are no acknowledgement, are no reply
  pub no_report : 75 ≤ length s → is_status s ≡ false → is_good (read_one family s) ≡ false
  no_report long e =
      ⊎_elim
      (λ one. rw one (report_is s long ∙ e))
      (λ three. rw three (command_is s ∙ not_command s (λ six. omega (arith, six, long))))
      (spe_cases family spe)

  pub no_ack : length s < 75 → (family ≡ 3 → ⊥) → is_ack s ≡ false → is_good (read_one family s) ≡ false
  no_ack short no-host e =
      ⊎_elim (λ one. rw one (ack_is s short ∙ e)) (λ three. absurd (no-host three)) (spe_cases family spe)

-- bytes that are no good frame: no head is good by them
pub not_good : (r : Read) → is_good r ≡ false → (n : ℕ) → head_of n r ≡ bad
not_good (Ok f) e n = cc
not_good (Err number) e n = refl
