-- What the reader of one frame answers, by what was found in its bytes: the code of a packet, or the numbers of a report.
-- Assumes nothing.
use Prim.Native.Nat.{ℕ}
use Rattle.rules.specs.declared.Refusal.TheVariants.{NotGood}
use Rattle.std.specs.Prelude.{Err, Ok, Some, None}
use Rattle.std.specs.Bool.{then_some}
use mathlib.Core.Path.{◌≡◌, refl, sym}
use mathlib.Core.Bool.{Bool, true, false}
use mathlib.Core.List.{List}
use lib.ListN.{get_or}
use Rattle.rules.specs.Codes.{is_ack, is_command}
use Rattle.rules.specs.Status.{is_status, status_in}
use Rattle.rules.specs.Answers.{read_one, read_family1, read_family3, status_numbers}
use Rattle.rules.specs.declared.Frame.TheVariants.{Ack, Status, Command}
use Rattle.spe.specs.Packets.{ack_in, command_in}
use Rattle.spe.specs.Report.{numbers_in}

-- what something that was found by a test tells, and what nothing tells
found : {A : Type 0} (test : Bool) (x y : A) → Some y ≡ then_some test x → (test ≡ true) × (x ≡ y)
found true x y e = (refl, cc)
found false x y e = cc

not_found : {A : Type 0} (test : Bool) (x : A) → None ≡ then_some test x → test ≡ false
not_found true x e = cc
not_found false x e = refl

module _ (bs : List ℕ) where
  pub an_ack : (code : ℕ) → Some code ≡ ack_in bs → read_one 1 bs ≡ Ok (Ack code)
  unfolding ack_in read_one read_family1
  an_ack code e = let h = found (is_ack bs) (get_or bs 4 0) code e in rw (h.0, h.1)

  pub a_report : (numbers : List ℕ) → None ≡ ack_in bs → Some numbers ≡ numbers_in bs
      → (read_one 1 bs ≡ Ok (Status (status_in bs))) × (numbers ≡ status_numbers (status_in bs))
  unfolding ack_in numbers_in read_one read_family1
  a_report numbers none e =
      let h = found (is_status bs) (status_numbers (status_in bs)) numbers e in
      (rw (not_found (is_ack bs) (get_or bs 4 0) none, h.0), sym h.1)

  pub no_reply : None ≡ ack_in bs → None ≡ numbers_in bs → read_one 1 bs ≡ Err NotGood
  unfolding ack_in numbers_in read_one read_family1
  no_reply none e = rw (not_found (is_ack bs) (get_or bs 4 0) none, not_found (is_status bs) (status_numbers (status_in bs)) e)

  pub a_command : (code : ℕ) → Some code ≡ command_in bs → read_one 3 bs ≡ Ok (Command code)
  unfolding command_in read_one read_family3
  a_command code e = let h = found (is_command bs) (get_or bs 4 0) code e in rw (h.0, h.1)

  pub no_command : None ≡ command_in bs → read_one 3 bs ≡ Err NotGood
  unfolding command_in read_one read_family3
  no_command e = rw (not_found (is_command bs) (get_or bs 4 0) e)
