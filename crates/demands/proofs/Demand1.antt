-- Demand 1's numbers. The promises of the readers, the writers, the lister and the streams state their numbers and their
-- order themselves, in a clause `says`. Here is the reader of one frame, whose number 8 speaks of the good frames of demand 2;
-- the numbers of the writers; and that a list is as before where it is refused. Each is about whatever meets a promise.
-- Assumes nothing.
use Prim.Native.Nat.{ℕ, ◌≤◌}
use Rattle.rules.specs.Answers.{Read}
use Rattle.rules.specs.Answers.{Wrote}
use Rattle.rules.specs.Refusals.{no_code, no_family, no_record, no_room, not_good}
use Rattle.rules.specs.declared.Refusal.TheVariants.{NoFamily, NoRoom, TooLong}
use Rattle.std.specs.Prelude.{Err, Ok}
use mathlib.Core.Path.{◌≡◌, refl, sym, ap, ◌∙◌}
use mathlib.Core.Bool.{Bool, true, false, ◌&&◌, cond, not}
use mathlib.Core.List.{List, [], ◌∷◌, ◌++◌}
use mathlib.Core.Logic.{◌↔◌}
use native.Mathlib.Omega.{arith}
use lib.Dec.{leb}
use lib.IntN.{pos}
use lib.ListN.{length, drop}
use Rattle.rules.specs.Answers.{a_frame, length_written, Says, no, yes, kind_of, values, said, said_to_write, values_or8, read_one, is_family, allowed, bytes_of, not_allowed, Reads, Writes}
use Rattle.rules.specs.declared.Message as MessageType
use Rattle.rules.specs.declared.Message.TheVariants.{Question, Number, Version, Clock, Tune, OtherLetters}
use Rattle.rules.specs.declared.Frame.{Frame}
use Rattle.rules.specs.declared.Frame.TheVariants.{Message}
use Rattle.rules.specs.declared.Kind.{Kind}
use Rattle.rules.specs.declared.Kind.TheVariants.{OfAck, OfStatus, OfCommand, OfSentence, OfQuestion, OfResponse, OfLetters}
use Rattle.stream_rules.specs.Lister.{frames, starts_of, fits, Lists}
use Rattle.demands.proofs.Demand2.{IsOne, exact, nothing_else}
use Rattle.rules.specs.declared.Refusal.TheVariants.{NoCode, NoRecord}
use Rattle.rules.specs.declared.Refusal.{Refusal}
use Rattle.rules.specs.Refusals.{number_for}

module _ (family : ℕ) (bs : List ℕ) (answer : Read) (reads : Reads family bs answer) where
  -- The reader of one frame: 1 where there is no such family,
  pub read_1 : is_family family ≡ false → said answer ≡ no no_family
  read_1 e = reads.says ∙ (λ i. cond (not (e i)) (no no_family) (values_or8 (read_one family bs)))

  -- its kind and values where the bytes are one good frame of the family,
  pub read_values : (f : Frame) → IsOne family bs f → said answer ≡ yes (a_frame (kind_of f)) (values f)
  read_values f one = ap said (reads.answers ∙ (exact family bs f).1 one)

  -- and else 8.
  pub read_8 : is_family family ≡ true → ((f : Frame) → IsOne family bs f → ⊥) → said answer ≡ no not_good
  read_8 known none =
      reads.says
      ∙ (λ i. cond (not (known i)) (no no_family) (values_or8 (read_one family bs)))
      ∙ ap values_or8 (nothing_else family bs none).1

-- A writer refuses a code by number 2, and a record by number 3.
pub code_2 : (c : ℕ) → (not_allowed (OfAck c) ≡ NoCode) × (not_allowed (OfCommand c) ≡ NoCode)
code_2 c = (refl, refl)

pub record_3 : (n : ℕ) → (not_allowed OfStatus ≡ NoRecord) × (not_allowed (OfSentence n) ≡ NoRecord)
record_3 n = (refl, refl)

-- (a message is a record, whatever its kind)
pub message_3 : (m : MessageType.Message) → not_allowed (kind_of (Message m)) ≡ NoRecord
message_3 (Question n) = refl
message_3 (Number n k) = refl
message_3 (Version a b) = refl
message_3 (Clock c) = refl
message_3 Tune = refl
message_3 (OtherLetters w) = refl

-- what tells a refusal and its number apart: 0 for none
abbrev number : Says → ℕ
number (no n) = n
number (yes k vs) = 0

-- so it is neither 4 nor none
two_or_three : (k : Kind) → (no_code ≤ number_for (not_allowed k)) × (number_for (not_allowed k) ≤ no_record)
two_or_three (OfAck c) = omega arith
two_or_three OfStatus = omega arith
two_or_three (OfCommand c) = omega arith
two_or_three (OfSentence n) = omega arith
two_or_three (OfQuestion n) = omega arith
two_or_three (OfResponse n) = omega arith
two_or_three (OfLetters w) = omega arith

-- It is given exactly where the code or record is not allowed.
pub write_no : (f : Frame) (out : List ℕ) (answer : Wrote) (after : List ℕ) → Writes (allowed f) (not_allowed (kind_of f)) (bytes_of f) out answer after
    → (said_to_write answer ≡ no (number_for (not_allowed (kind_of f)))) ↔ (allowed f ≡ false)
write_no f out answer after w = (λ e. back (allowed f) (leb (length (bytes_of f)) (length out)) (sym w.says ∙ e), λ e. w.says ∙ rw e)
  where
    back : (a room : Bool) → cond (not a) (no (number_for (not_allowed (kind_of f)))) (cond (not room) (no no_room) (yes length_written (pos (length (bytes_of f)) ∷ []))) ≡ no (number_for (not_allowed (kind_of f)))
        → a ≡ false
    back false room e = refl
    back true false e = absurd (omega (arith, two_or_three (kind_of f), ap number e))
    back true true e = absurd (omega (arith, two_or_three (kind_of f), ap number e))

-- A lister that refuses leaves the list as it was.
pub list_as_before : (family : ℕ) (capture out : List ℕ) (n : Refusal) (after : List ℕ) → Lists family capture out (Err n) after → after ≡ out
list_as_before family capture out n after lists =
    lists.content
    ∙ case (is_family family) (fits capture) (leb (length (frames family capture)) (length out)) lists.answers
  where
    found : List ℕ
    found = starts_of (frames family capture) ++ drop (length (frames family capture)) out

    case : (known short room : Bool)
        → Err n ≡ cond (not known) (Err NoFamily) (cond (not short) (Err TooLong) (cond (not room) (Err NoRoom) (Ok (length (frames family capture)))))
        → cond (known && short && room) found out ≡ out
    case false short room e = refl
    case true false room e = refl
    case true true false e = refl
    case true true true e = let z : ◌≡◌ {A = ℕ} 0 1 = cc in absurd (omega arith)
