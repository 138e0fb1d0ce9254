-- When bytes are a good frame of an SPE family: a command is good by its test, and a reply by that of an acknowledgement or
-- of a report, which their lengths tell apart.
-- Assumes nothing.
use Prim.Native.Nat.{ℕ, ◌≤◌, ◌<◌}
use Rattle.std.specs.Prelude.{Err, Ok}
use Rattle.rules.specs.declared.Refusal.TheVariants.{NotGood}
use mathlib.Core.Path.{◌≡◌, refl, sym, ap, ◌∙◌}
use mathlib.Core.Bool.{Bool, true, false, ◌||◌, cond, or-false}
use mathlib.Core.List.{List}
use native.Mathlib.Omega.{arith}
use lib.ListN.{length, get_or}
use Rattle.rules.specs.Answers.{is_good, read_one, read_family1, read_family3}
use Rattle.rules.specs.Codes.{is_ack, is_command}
use Rattle.rules.specs.Status.{status_in, is_status}
use Rattle.rules.specs.declared.Frame.TheVariants.{Ack, Status, Command}
use Rattle.spe.proofs.PacketFrames.{not_ack}
use Rattle.spe.proofs.ReportFrames.{not_status}
use Rattle.frames.proofs.Families.{family1, family3}

a_command : (s : List ℕ) → is_command s ≡ is_good (read_family3 s)
unfolding read_family3
a_command s = by (is_command s)
  where
    by : (a : Bool) → a ≡ is_good (cond a (Ok (Command (get_or s 4 0))) (Err NotGood))
    by true = refl
    by false = refl

a_reply : (s : List ℕ) → (is_ack s || is_status s) ≡ is_good (read_family1 s)
unfolding read_family1
a_reply s = by (is_ack s) (is_status s)
  where
    by : (a b : Bool) → (a || b) ≡ is_good (cond a (Ok (Ack (get_or s 4 0))) (cond b (Ok (Status (status_in s))) (Err NotGood)))
    by true b = refl
    by false true = refl
    by false false = refl

pub command_is : (s : List ℕ) → is_good (read_one 3 s) ≡ is_command s
command_is s = sym (a_command s ∙ ap is_good (family3 s))

reply_is : (s : List ℕ) → is_good (read_one 1 s) ≡ (is_ack s || is_status s)
reply_is s = sym (a_reply s ∙ ap is_good (family1 s))

-- by its length: no report has fewer than 75 bytes, and no acknowledgement has so many
pub ack_is : (s : List ℕ) → length s < 75 → is_good (read_one 1 s) ≡ is_ack s
ack_is s short = reply_is s ∙ ap (λ b. is_ack s || b) (not_status s (λ e. omega (arith, e))) ∙ or-false (is_ack s)

pub report_is : (s : List ℕ) → 75 ≤ length s → is_good (read_one 1 s) ≡ is_status s
report_is s long = reply_is s ∙ ap (λ a. a || is_status s) (not_ack s (λ e. omega (arith, e)))
