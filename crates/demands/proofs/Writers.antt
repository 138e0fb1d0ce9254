-- Demand 2 of the writers that run: what each promises is what the theorems of demand 2 speak of. Then, of a frame that was
-- read and is written again: where there is room, its own bytes stand at the front of the output if, and only if, its
-- fields stood in the writer's form. And without room nothing is written; only a sentence of another number and letters that
-- are not listed have no writer.
-- Assumes nothing.
use Prim.Native.Nat.{ℕ, ◌≤◌, ◌<◌}
use Rattle.rules.specs.Answers.{Wrote}
use Rattle.rules.specs.declared.Refusal.TheVariants.{NoRoom}
use Rattle.std.specs.Prelude.{Err, Ok}
use mathlib.Core.Path.{◌≡◌, refl, sym, ap, ◌∙◌}
use mathlib.Core.Bool.{true, false, ◌&&◌, cond, true≢false}
use mathlib.Core.List.{List, ◌++◌}
use mathlib.Core.Logic.{◌↔◌, ◌⊎◌, inl, inr}
use borrow.Author.Tests.{le-leb, lt-leb}
use lib.ListN.{length, take, drop}
use lib.Seq.{take-append_seam}
use Rattle.rules.specs.Codes.{is_code, is_ack_code, command, ack}
use Rattle.rules.specs.Status.{status_frame, status_in_range, status_bytes}
use Rattle.rules.specs.Sentences.{sentence_frame, in_range02, in_range03, in_range05, bytes02, bytes03, bytes05}
use Rattle.rules.specs.Messages.{message_in_range, message_bytes}
use Rattle.rules.specs.Answers.{kind_of, allowed, bytes_of, has_writer, not_allowed, Reads, Writes}
use Rattle.rules.specs.Form.{in_form}
use Rattle.rules.specs.declared.Frame.{Frame}
use Rattle.rules.specs.declared.Frame.TheVariants.{Ack, Status, Command, Apa02, Apa03, Apa05, Other, Message}
use Rattle.rules.specs.declared.Message as MessageType
use Rattle.rules.specs.declared.Message.TheVariants.{Question, Number, Version, Clock, Tune, OtherLetters}
use Rattle.rules.specs.declared.Letters.{Letters}
use Rattle.rules.specs.declared.Status as StatusType
use Rattle.rules.specs.declared.Sentence02.{Sentence02}
use Rattle.rules.specs.declared.Sentence03.{Sentence03}
use Rattle.rules.specs.declared.Sentence05.{Sentence05}
use Rattle.demands.proofs.Demand1.{message_3}
use Rattle.demands.proofs.Demand2.{read_allowed, writes_again}
use Rattle.rules.specs.declared.Refusal.TheVariants.{NoCode, NoRecord}

-- what the theorems of demand 2 speak of: a writer of a frame
abbrev pub WritesFrame : Frame → List ℕ → Wrote → List ℕ → Type 0
WritesFrame f out answer after = Writes (allowed f) (not_allowed (kind_of f)) (bytes_of f) out answer after

module _ (out : List ℕ) (answer : Wrote) (after : List ℕ) where
  pub write_ack : (c : ℕ) → Writes (is_ack_code c) NoCode (ack c) out answer after → WritesFrame (Ack c) out answer after
  unfolding allowed bytes_of
  write_ack c w = w

  pub write_command : (c : ℕ) → Writes (is_code c) NoCode (command c) out answer after → WritesFrame (Command c) out answer after
  unfolding allowed bytes_of
  write_command c w = w

  pub write_status : (s : StatusType.Status) → Writes (status_in_range s) NoRecord (status_bytes s) out answer after → WritesFrame (Status s) out answer after
  unfolding allowed bytes_of
  write_status s w = w

  pub write_02 : (r : Sentence02) → Writes (in_range02 r) NoRecord (bytes02 r) out answer after → WritesFrame (Apa02 r) out answer after
  unfolding allowed bytes_of
  write_02 r w = w

  pub write_03 : (r : Sentence03) → Writes (in_range03 r) NoRecord (bytes03 r) out answer after → WritesFrame (Apa03 r) out answer after
  unfolding allowed bytes_of
  write_03 r w = w

  pub write_05 : (r : Sentence05) → Writes (in_range05 r) NoRecord (bytes05 r) out answer after → WritesFrame (Apa05 r) out answer after
  unfolding allowed bytes_of
  write_05 r w = w

  pub write_message : (m : MessageType.Message) → Writes (message_in_range m) NoRecord (message_bytes m) out answer after
      → WritesFrame (Message m) out answer after
  unfolding allowed bytes_of
  write_message m w = rw (message_3 m) w

-- what is at the front of the output, where the frame is allowed and there is room
front : (f : Frame) (out : List ℕ) (answer : Wrote) (after : List ℕ) → WritesFrame f out answer after → allowed f ≡ true → length (bytes_of f) ≤ length out
    → take (length (bytes_of f)) after ≡ bytes_of f
front f out answer after w e k =
    let l = le-leb (length (bytes_of f)) (length out) k in
    ap (take (length (bytes_of f))) (w.content ∙ (λ i. cond (e i && l i) (bytes_of f ++ drop (length (bytes_of f)) out) out))
    ∙ take-append_seam (bytes_of f) (drop (length (bytes_of f)) out)

module _ (family : ℕ) (bs : List ℕ) (f : Frame) (reads : Reads family bs (Ok f)) (writer : has_writer f ≡ true)
    (out : List ℕ) (answer : Wrote) (after : List ℕ) (w : WritesFrame f out answer after) (room : length (bytes_of f) ≤ length out) where
  pub read_and_written_again : (take (length (bytes_of f)) after ≡ bs) ↔ (in_form f bs ≡ true)
  read_and_written_again =
      let read = sym reads.answers in
      let same = front f out answer after w (read_allowed family bs f read writer) room in
      let again = writes_again family bs f read writer in (
        λ e. again.0 (sym same ∙ e),
        λ e. same ∙ again.1 e,
      )

pub no_room_refused : (f : Frame) (out : List ℕ) (answer : Wrote) (after : List ℕ) → WritesFrame f out answer after → allowed f ≡ true
    → length out < length (bytes_of f) → (answer ≡ Err NoRoom) × (after ≡ out)
no_room_refused f out answer after w e k =
    let l = lt-leb (length (bytes_of f)) (length out) k in (
      w.answers ∙ (λ i. cond (e i) (cond (l i) (Ok (length (bytes_of f))) (Err NoRoom)) (Err (not_allowed (kind_of f)))),
      w.content ∙ (λ i. cond (e i && l i) (bytes_of f ++ drop (length (bytes_of f)) out) out),
    )

-- Only a sentence of another number and letters that are not listed have no writer.
pub only_other : (f : Frame) → has_writer f ≡ false → ((n : ℕ) × (f ≡ Other n)) ⊎ ((w : Letters) × (f ≡ Message (OtherLetters w)))
unfolding bytes_of status_frame sentence_frame message_bytes
only_other (Ack c) e = absurd (true≢false e)
only_other (Status s) e = absurd (true≢false e)
only_other (Command c) e = absurd (true≢false e)
only_other (Apa02 r) e = absurd (true≢false e)
only_other (Apa03 r) e = absurd (true≢false e)
only_other (Apa05 r) e = absurd (true≢false e)
only_other (Other n) e = inl (n, refl)
only_other (Message (Question n)) e = absurd (true≢false e)
only_other (Message (Number n k)) e = absurd (true≢false e)
only_other (Message (Version a b)) e = absurd (true≢false e)
only_other (Message (Clock c)) e = absurd (true≢false e)
only_other (Message Tune) e = absurd (true≢false e)
only_other (Message (OtherLetters w)) e = inr (w, refl)
