-- What the writer answered of a frame says which texts are to be shown: its bytes, or a dash. The room lent for them is
-- enough, since no writer's frame is longer than 76 bytes.
-- Assumes nothing.
use Prim.Native.Nat.{ℕ, ◌≤◌}
use Rattle.rules.specs.Answers.{Wrote}
use Rattle.std.specs.Prelude.{Err, Ok}
use mathlib.Core.Path.{◌≡◌, refl}
use mathlib.Core.Bool.{true, false, cond}
use mathlib.Core.List.{List, [], ◌∷◌}
use mathlib.Core.Logic.{⊎_elim}
use native.Mathlib.Omega.{arith}
use borrow.Author.Tests.{le-leb}
use lib.ListN.{length}
use lib.Seq.{take-append_seam}
use Rattle.rules.specs.Bytes.{ascii, part}
use Rattle.rules.specs.declared.Refusal.{Refusal}
use Rattle.rules.specs.Numbers.{with_zeros}
use Rattle.rules.specs.Sentences.{sentence_frame, numbers02, numbers03, texts05, decimals, commas, temperature_text, bytes02, bytes03, bytes05}
use Rattle.rules.specs.declared.Sentence02.{Sentence02}
use Rattle.rules.specs.declared.Sentence03.{Sentence03}
use Rattle.rules.specs.declared.Sentence05.{Sentence05}
use Rattle.rules.specs.Answers.{Writes, kind_of, allowed, not_allowed, bytes_of}
use Rattle.rules.specs.declared.Frame.{Frame}
use Rattle.rules.specs.declared.Frame.TheVariants.{Ack, Status, Command, Apa02, Apa03, Apa05, Other, Message}
use Rattle.frame_laws.proofs.Bytes.{answer}
use Rattle.frame_laws.proofs.Messages.{message_length}
use Rattle.spe_writer.proofs.Report.{report_at_most}
use Rattle.lines.specs.Lines.{hex_texts}
use Rattle.replays.specs.Texts.{written_texts}

-- the three sentences have one length each, whatever the record holds
length02 : (r : Sentence02) → length (bytes02 r) ≡ 63
unfolding sentence_frame numbers02 decimals commas with_zeros
length02 r = refl

length03 : (r : Sentence03) → length (bytes03 r) ≡ 49
unfolding sentence_frame numbers03 decimals commas with_zeros temperature_text
length03 r = refl

length05 : (r : Sentence05) → length (bytes05 r) ≡ 32
unfolding sentence_frame texts05 commas
length05 r = refl

pub longest : (f : Frame) → allowed f ≡ true → length (bytes_of f) ≤ 76
unfolding allowed bytes_of
longest (Ack c) e = omega arith
longest (Status s) e = report_at_most s
longest (Command c) e = omega arith
longest (Apa02 r) e = omega (arith, length02 r)
longest (Apa03 r) e = omega (arith, length03 r)
longest (Apa05 r) e = omega (arith, length05 r)
longest (Other n) e = omega arith
longest (Message m) e = omega (arith, message_length m e)

module _ (f : Frame) {out after : List ℕ} {given : Wrote} (w : Writes (allowed f) (not_allowed (kind_of f)) (bytes_of f) out given after) (room : allowed f ≡ true → length (bytes_of f) ≤ length out) where
  pub bytes_shown : (n : ℕ) → given ≡ Ok n → hex_texts (part 0 n after) ≡ written_texts f
  unfolding written_texts
  bytes_shown n e = ⊎_elim yes no (answer (allowed f))
    where
      yes : allowed f ≡ true → hex_texts (part 0 n after) ≡ cond (allowed f) (hex_texts (bytes_of f)) (ascii "-" ∷ [])
      yes a =
          let size : n ≡ length (bytes_of f) = cc (rw (a, le-leb _ _ (room a)) at w.answers) in
          rw (a, size, rw (a, le-leb _ _ (room a)) at w.content, take-append_seam)

      no : allowed f ≡ false → hex_texts (part 0 n after) ≡ cond (allowed f) (hex_texts (bytes_of f)) (ascii "-" ∷ [])
      no a =
          let z : ◌≡◌ {A = ℕ} 0 1 = cc (rw a at w.answers) in
          absurd (omega arith)

  pub dash_shown : (e : Refusal) → given ≡ Err e → ascii "-" ∷ [] ≡ written_texts f
  unfolding written_texts
  dash_shown refusal e = ⊎_elim yes (λ a. rw a) (answer (allowed f))
    where
      yes : allowed f ≡ true → ascii "-" ∷ [] ≡ cond (allowed f) (hex_texts (bytes_of f)) (ascii "-" ∷ [])
      yes a =
          let z : ◌≡◌ {A = ℕ} 0 1 = cc (rw (a, le-leb _ _ (room a)) at w.answers) in
          absurd (omega arith)
