-- Demand 2, over all kinds of frames: reading is exact, what is written reads back, and what is read and written again is
-- the same exactly where it stood in the writer's form. The families' own theorems stand in `Spe`, `Alpha`,
-- `MessageReading` and `Messages`.
-- Assumes nothing.
use Prim.Native.Nat.{ℕ, ◌≤◌}
use Rattle.rules.specs.Answers.{Read}
use Rattle.rules.specs.Answers.{Wrote}
use Rattle.rules.specs.declared.Refusal.TheVariants.{NoFamily, NoRoom}
use Rattle.std.specs.Prelude.{Err, Ok}
use mathlib.Core.Path.{◌≡◌, refl, sym, ap, subst, ◌∙◌}
use mathlib.Core.Bool.{true, false, ◌&&◌, cond, false≢true}
use mathlib.Core.List.{List, ◌++◌}
use mathlib.Core.Logic.{◌↔◌, ⊎_elim}
use native.Mathlib.Omega.{arith}
use borrow.Author.Tests.{eqb-true, le-leb}
use lib.Dec.{eqb, leb}
use lib.ListN.{length, take, drop, get_or}
use lib.Seq.{take-append_seam}
use Rattle.rules.specs.Answers.{read_one, kind_of, family_of, allowed, bytes_of, has_writer, not_allowed, Writes}
use Rattle.rules.specs.Form.{in_form}
use Rattle.rules.specs.declared.Frame.{Frame}
use Rattle.rules.specs.declared.Frame.TheVariants.{Ack, Status, Command, Apa02, Apa03, Apa05, Other, Message}
use Rattle.frame_laws.proofs.Bytes.{answer}
use Rattle.frame_laws.proofs.Exact.{IsFrame}
use Rattle.frame_laws.proofs.Reading.{ReadsAs, message_family}
use Rattle.frame_laws.proofs.Spe.{Answer1, Answer3, answer_1, answer_3, ack_exact, status_exact, command_exact, ack_back, command_back, status_back, family1_allowed, family3_allowed, family1_again, family3_again}
use Rattle.frame_laws.proofs.Alpha.{family2_exact, family2_back, family2_allowed, family2_again}
use Rattle.frame_laws.proofs.MessageReading.{family4_exact}
use Rattle.frame_laws.proofs.Messages.{family4_back, family4_allowed, family4_again}
use Rattle.rules.specs.declared.Refusal.{Refusal}

-- These bytes are, as a whole, this frame of this family, by the definitions.
abbrev pub IsOne : ℕ → List ℕ → Frame → Type 0
IsOne family bs f = (family ≡ family_of (kind_of f)) × IsFrame bs f

-- the families, and what is read where there is none
data Which (family : ℕ) (bs : List ℕ) : Type 0 where
  first : family ≡ 1 → Which family bs
  second : family ≡ 2 → Which family bs
  third : family ≡ 3 → Which family bs
  fourth : family ≡ 4 → Which family bs
  none : read_one family bs ≡ Err NoFamily → Which family bs

which : (family : ℕ) (bs : List ℕ) → Which family bs
unfolding read_one
which family bs =
    ⊎_elim
    (λ (a : eqb family 1 ≡ true). first (eqb-true family 1 a))
    (λ (a : eqb family 1 ≡ false).
    ⊎_elim
    (λ (b : eqb family 2 ≡ true). second (eqb-true family 2 b))
    (λ (b : eqb family 2 ≡ false).
    ⊎_elim
    (λ (c : eqb family 3 ≡ true). third (eqb-true family 3 c))
    (λ (c : eqb family 3 ≡ false).
    ⊎_elim
    (λ (d : eqb family 4 ≡ true). fourth (eqb-true family 4 d))
    (λ (d : eqb family 4 ≡ false). none (rw (a, b, c, d)))
    (answer (eqb family 4)))
    (answer (eqb family 3)))
    (answer (eqb family 2)))
    (answer (eqb family 1))

-- an answer is not both a refusal and a frame
refused_no_frame : (r : Read) (n : Refusal) (f : Frame) → r ≡ Err n → r ≡ Ok f → ⊥
refused_no_frame r n f p q = let z : ◌≡◌ {A = ℕ} 0 1 = cc in omega arith

-- What the answers of families 1 and 3 tell of the bytes.
tells_1 : (bs : List ℕ) → ReadsAs 1 bs (read_one 1 bs)
tells_1 bs = case (answer_1 bs)
  where
    case : Answer1 bs (read_one 1 bs) → ReadsAs 1 bs (read_one 1 bs)
    case (Answer1.an_ack t e) = rw e (refl, (ack_exact bs (get_or bs 4 0)).0 e)
    case (Answer1.a_report t e) = rw e (refl, (t, refl))
    case (Answer1.neither t u e) = rw e refl

tells_3 : (bs : List ℕ) → ReadsAs 3 bs (read_one 3 bs)
tells_3 bs = case (answer_3 bs)
  where
    case : Answer3 bs (read_one 3 bs) → ReadsAs 3 bs (read_one 3 bs)
    case (Answer3.a_command t e) = rw e (refl, (command_exact bs (get_or bs 4 0)).0 e)
    case (Answer3.none t e) = rw e refl

-- 1. A list of bytes is read as a frame exactly when it is that frame by the definitions,
pub exact : (family : ℕ) (bs : List ℕ) (f : Frame) → (read_one family bs ≡ Ok f) ↔ IsOne family bs f
exact family bs f = (λ h. there h (which family bs), λ i. back_again f i.0 i.1)
  where
    at : (n : ℕ) → read_one family bs ≡ Ok f → family ≡ n → read_one n bs ≡ Ok f
    at n h e = subst (λ (m : ℕ). read_one m bs ≡ Ok f) e h

    is_one : (n : ℕ) → family ≡ n → ReadsAs n bs (Ok f) → IsOne family bs f
    is_one n e told = (e ∙ sym told.0, told.1)

    there : read_one family bs ≡ Ok f → Which family bs → IsOne family bs f
    there h (first e) = is_one 1 e (subst (ReadsAs 1 bs) (at 1 h e) (tells_1 bs))
    there h (second e) = is_one 2 e ((family2_exact bs f).0 (at 2 h e))
    there h (third e) = is_one 3 e (subst (ReadsAs 3 bs) (at 3 h e) (tells_3 bs))
    there h (fourth e) = is_one 4 e ((family4_exact bs f).0 (at 4 h e))
    there h (none e) = absurd (refused_no_frame (read_one family bs) NoFamily f e h)

    back_again : (k : Frame) → family ≡ family_of (kind_of k) → IsFrame bs k → read_one family bs ≡ Ok k
    back_again (Ack c) e i = rw e ((ack_exact bs c).1 i)
    back_again (Status s) e i = rw e ((status_exact bs s).1 i)
    back_again (Command c) e i = rw e ((command_exact bs c).1 i)
    back_again (Apa02 r) e i = rw e ((family2_exact bs (Apa02 r)).1 (refl, i))
    back_again (Apa03 r) e i = rw e ((family2_exact bs (Apa03 r)).1 (refl, i))
    back_again (Apa05 r) e i = rw e ((family2_exact bs (Apa05 r)).1 (refl, i))
    back_again (Other n) e i = rw e ((family2_exact bs (Other n)).1 (refl, i))
    back_again (Message m) e i = rw (e, message_family m) ((family4_exact bs (Message m)).1 (message_family m, i))

-- and bytes that are no frame are refused: nothing else is read.
pub nothing_else : (family : ℕ) (bs : List ℕ) → ((f : Frame) → IsOne family bs f → ⊥) → (n : Refusal) × (read_one family bs ≡ Err n)
nothing_else family bs no_frame = case (read_one family bs) refl
  where
    case : (r : Read) → read_one family bs ≡ r → (n : Refusal) × (read_one family bs ≡ Err n)
    case (Ok f) e = absurd (no_frame f ((exact family bs f).0 e))
    case (Err n) e = (n, e)

-- 2. Each command, each acknowledgement and each record in range, once written, reads back the same.
pub reads_back : (f : Frame) → allowed f ≡ true → read_one (family_of (kind_of f)) (bytes_of f) ≡ Ok f
unfolding allowed
reads_back (Ack c) e = ack_back c e
reads_back (Status s) e = status_back s e
reads_back (Command c) e = command_back c e
reads_back (Apa02 r) e = family2_back (Apa02 r) refl e
reads_back (Apa03 r) e = family2_back (Apa03 r) refl e
reads_back (Apa05 r) e = family2_back (Apa05 r) refl e
reads_back (Other n) e = absurd (false≢true e)
reads_back (Message m) e = rw (message_family m) (family4_back (Message m) (message_family m) e)

-- What is read and has a writer is allowed,
module _ (family : ℕ) (bs : List ℕ) (f : Frame) (h : read_one family bs ≡ Ok f) (writer : has_writer f ≡ true) where
  pub read_allowed : allowed f ≡ true
  read_allowed = case (which family bs)
    where
      at : (n : ℕ) → family ≡ n → read_one n bs ≡ Ok f
      at n e = subst (λ (m : ℕ). read_one m bs ≡ Ok f) e h

      case : Which family bs → allowed f ≡ true
      case (first e) = family1_allowed bs f (at 1 e)
      case (second e) = family2_allowed bs f (at 2 e) writer
      case (third e) = family3_allowed bs f (at 3 e)
      case (fourth e) = family4_allowed bs f (at 4 e) writer
      case (none e) = absurd (refused_no_frame (read_one family bs) NoFamily f e h)

  -- 3. and, read and written again, it gives its own bytes if, and only if, its fields stood in the writer's form.
  pub writes_again : (bytes_of f ≡ bs) ↔ (in_form f bs ≡ true)
  writes_again = case (which family bs)
    where
      at : (n : ℕ) → family ≡ n → read_one n bs ≡ Ok f
      at n e = subst (λ (m : ℕ). read_one m bs ≡ Ok f) e h

      case : Which family bs → (bytes_of f ≡ bs) ↔ (in_form f bs ≡ true)
      case (first e) = family1_again bs f (at 1 e)
      case (second e) = family2_again bs f (at 2 e) writer
      case (third e) = family3_again bs f (at 3 e)
      case (fourth e) = family4_again bs f (at 4 e) writer
      case (none e) = absurd (refused_no_frame (read_one family bs) NoFamily f e h)

-- The same through the statements of the writers, whatever meets them. With a frame that is allowed and room for it, its
-- length is given, and the reader finds it again at the front of the output;
module _ (f : Frame) (out : List ℕ) (r : Wrote) (after : List ℕ) (w : Writes (allowed f) (not_allowed (kind_of f)) (bytes_of f) out r after) where
  pub written_reads_back : allowed f ≡ true → length (bytes_of f) ≤ length out
      → (r ≡ Ok (length (bytes_of f))) × (read_one (family_of (kind_of f)) (take (length (bytes_of f)) after) ≡ Ok f)
  written_reads_back e k =
      let l = le-leb (length (bytes_of f)) (length out) k in (
        w.answers ∙ (λ i. cond (e i) (cond (l i) (Ok (length (bytes_of f))) (Err NoRoom)) (Err (not_allowed (kind_of f)))),
        ap (λ (bs : List ℕ). read_one (family_of (kind_of f)) (take (length (bytes_of f)) bs))
            (w.content ∙ (λ i. cond (e i && l i) (bytes_of f ++ drop (length (bytes_of f)) out) out))
            ∙ ap (read_one (family_of (kind_of f))) (take-append_seam (bytes_of f) (drop (length (bytes_of f)) out))
            ∙ reads_back f e,
      )

  -- a record out of range is refused with 3 and a bad code with 2, and nothing is written;
  pub not_allowed_refused : allowed f ≡ false → (r ≡ Err (not_allowed (kind_of f))) × (after ≡ out)
  not_allowed_refused e = (
    w.answers ∙ (λ i. cond (e i) (cond (leb (length (bytes_of f)) (length out)) (Ok (length (bytes_of f))) (Err NoRoom)) (Err (not_allowed (kind_of f)))),
    w.content ∙ (λ i. cond (e i && leb (length (bytes_of f)) (length out)) (bytes_of f ++ drop (length (bytes_of f)) out) out),
  )
