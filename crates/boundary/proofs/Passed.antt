-- Demand 2 for a C program: what `amp_write` writes, `amp_read` reads back as the same kind, code and values; and a row that a call left
-- and that is passed on whole, with whatever stands behind its values, is written as its record is.
-- Assumes nothing.
use Prim.Native.Nat.{ℕ}
use Rattle.rules.specs.declared.Refusal.{Refusal}
use Rattle.stream_rules.specs.declared.Progress.{Progress}
use Rattle.stream_rules.specs.declared.Progress.TheVariants.{Ready}
use Rattle.std.specs.Prelude.{Ok, Result}
use mathlib.Core.Path.{◌≡◌, refl, sym, ap, ap₂, subst, ◌∙◌}
use mathlib.Core.Bool.{Bool, true, false, cond}
use mathlib.Core.List.{List, ◌++◌}
use mathlib.Core.Logic.{◌⊎◌, inl, inr}
use native.Mathlib.Omega.{arith}
use borrow.Author.Tests.{eq-eqb}
use lib.Dec.{eqb, leb}
use lib.IntN.{ℤ, pos, nat_abs}
use lib.ListN.{length, take, drop, take-append-drop}
use lib.Seq.{take-append_seam}
use Rattle.rules.specs.Answers.{read_one, family_of, kind_of, values, allowed, bytes_of, has_writer, not_allowed}
use Rattle.rules.specs.Messages.{message_in_range, message_bytes}
use Rattle.rules.specs.declared.Kind.{Kind}
use Rattle.rules.specs.declared.Kind.TheVariants.{OfAck, OfStatus, OfCommand, OfSentence, OfQuestion, OfResponse, OfLetters}
use Rattle.rules.specs.declared.Frame.{Frame}
use Rattle.rules.specs.declared.Frame.TheVariants.{Other, Message}
use Rattle.rules.specs.declared.Message.TheVariants.{OtherLetters}
use Rattle.rules.specs.declared.Letters.{Letters}
use Rattle.frame_laws.proofs.Exact.{IsFrame}
use Rattle.stream_rules.specs.Streams.{fed}
use Rattle.stream_rules.specs.declared.Reader.{Reader}
use Rattle.stream_rules.specs.declared.Ready as ReadyType
use Rattle.demands.proofs.Demand2.{exact, reads_back, read_allowed}
use Rattle.demands.proofs.Writers.{only_other}
use Rattle.rows.specs.Rows.{status_row, kind_row, code_of, row, row_fed, front}
use Rattle.rows.proofs.Lengths.{row_fits, room}
use Rattle.rows.proofs.Outcome.{was_read}
use Rattle.std.specs.Prelude.{Option, Some, None}
use Rattle.row_writer.specs.Given.{frame_given, allowed_given, refusal_given, bytes_given, WritesNumbers, WritesGiven}
use Rattle.row_writer.proofs.Frames.{as_none, as_sentence}
use Rattle.row_writer.proofs.Told.{given_told}
use Rattle.row_writer.proofs.Back.{given_back}
use Rattle.amp.specs.Boundary.{ReadsRow}
use Rattle.boundary.specs.RowSessions.{row_kind, RowCall}
use Rattle.boundary.specs.Passed.{row_code, row_values, value_count, family_in, WrittenRead, ReadsBack, WritesRecord}
use Rattle.boundary.proofs.Counts.{counted}
use Rattle.boundary.proofs.RowSessions.{at_front}
use Rattle.boundary.proofs.Apart.{WasRead}
use Rattle.boundary.proofs.Answered.{fine, shows}
use Rattle.rules.specs.Refusals.{number_for}

-- A row's kind tells the family.
family-in : (k : Kind) → family_in (kind_row k) ≡ family_of k
unfolding family_in
family-in (OfAck c) = refl
family-in OfStatus = refl
family-in (OfCommand c) = refl
family-in (OfSentence n) = refl
family-in (OfQuestion letters) = refl
family-in (OfResponse letters) = refl
family-in (OfLetters w) = refl

-- A writer that gives 0 was given a frame that is allowed, and wrote it at the front of the output.
record Wrote (kind code : ℕ) (vs : List ℤ) (bytes : List ℕ) : Type 0 where
  frame : Frame
  given : frame_given kind code vs ≡ Some frame
  may : allowed frame ≡ true
  whole : bytes ≡ bytes_of frame

-- no refusal has the number 0
some_refusal : (k : Kind) → 0 ≡ number_for (not_allowed k) → ⊥
some_refusal (OfAck c) e = omega (arith, e)
some_refusal OfStatus e = omega (arith, e)
some_refusal (OfCommand c) e = omega (arith, e)
some_refusal (OfSentence n) e = omega (arith, e)
some_refusal (OfQuestion letters) e = omega (arith, e)
some_refusal (OfResponse letters) e = omega (arith, e)
some_refusal (OfLetters w) e = omega (arith, e)

module _ (kind code : ℕ) (vs : List ℤ) (out : List ℕ) (before : ℕ) (after : List ℕ) (told : ℕ) where
  wrote : WritesGiven kind code vs out before 0 after told → Wrote kind code vs (take told after)
  wrote w = by_given (frame_given kind code vs) refl w
    where
      by_room : (f : Frame) → frame_given kind code vs ≡ Some f → allowed f ≡ true → (b : Bool) → leb (length (bytes_of f)) (length out) ≡ b
          → WritesNumbers (allowed f) (not_allowed (kind_of f)) (bytes_of f) out before 0 after told → Wrote kind code vs (take told after)
      by_room f is may true fits v = record {
        frame = f;
        given = is;
        may = may;
        whole = ap₂ take (rw (may, fits) at v.told) (rw (may, fits) at v.content) ∙ take-append_seam (bytes_of f) (drop (length (bytes_of f)) out);
      }
      by_room f is may false fits v = absurd (omega (arith, rw (may, fits) at v.answers))

      by_allowed : (f : Frame) → frame_given kind code vs ≡ Some f → (b : Bool) → allowed f ≡ b
          → WritesNumbers (allowed f) (not_allowed (kind_of f)) (bytes_of f) out before 0 after told → Wrote kind code vs (take told after)
      by_allowed f is true may v = by_room f is may (leb (length (bytes_of f)) (length out)) refl v
      by_allowed f is false may v = absurd (some_refusal (kind_of f) (rw may at v.answers))

      by_given : (g : Option Frame) → frame_given kind code vs ≡ g → WritesNumbers (allowed_given g) (refusal_given g) (bytes_given g) out before 0 after told → Wrote kind code vs (take told after)
      by_given (Some f) is v = by_allowed f is (allowed f) refl v
      by_given None is v = absurd (omega (arith, v.answers))

-- What was given for a code where the row has none does not matter for how many values there are.
same_count : (kind code : ℕ) → value_count kind (cond (eqb kind status_row) 0 code) ≡ value_count kind code
unfolding value_count
same_count kind code = by_test (eqb kind status_row) refl
  where
    by_test : (b : Bool) → eqb kind status_row ≡ b → value_count kind (cond (eqb kind status_row) 0 code) ≡ value_count kind code
    by_test true e = rw e
    by_test false e = rw e

-- What was written is read as the frame that was given, and its row has the kind, the code and the values.
pub written_reads_back : (kind code : ℕ) (vs : List ℤ) (number : ℕ) (row : List ℤ) → WrittenRead kind code vs number row → ReadsBack kind code vs number row
unfolding front
written_reads_back kind code vs number numbers w =
    let v = wrote kind code vs w.out w.before w.after w.told w.writes in
    let f = v.frame in
    let t = given_told kind code vs f v.given in
    let of : family_of (kind_of f) ≡ family_in kind = sym (family-in (kind_of f)) ∙ ap family_in t.same_kind in
    let good : read_one (family_in kind) (take w.told w.after) ≡ Ok f =
    ap₂ read_one (sym of) v.whole ∙ reads_back f v.may in
    let size : ℕ = length (take w.told w.after) in
    let zero : number ≡ 0 = (rw good at w.reads.answers) ∙ room (row 0 0 0 size f) w.numbers (row_fits 0 0 0 size f) w.room in
    let content : numbers ≡ front (row 0 0 0 size f) w.numbers = rw (good, eq-eqb number 0 zero) at w.reads.content in
    let count : length (values f) ≡ value_count kind code =
    counted (family_in kind) (take w.told w.after) f good ∙ ap₂ value_count t.same_kind t.same_code ∙ same_count kind code in
    record {
      accepted = zero;
      same_kind = ap row_kind content ∙ ap pos t.same_kind;
      same_code = ap row_code content ∙ ap pos t.same_code;
      enough = omega (arith, count, t.enough);
      same_values = ap (λ (l : List ℤ). take (value_count kind code) (row_values l)) content
          ∙ ap (λ (n : ℕ). take n (values f ++ drop (length (row 0 0 0 size f)) w.numbers)) (sym count)
          ∙ take-append_seam (values f) (drop (length (row 0 0 0 size f)) w.numbers)
          ∙ t.same_values
          ∙ ap (λ (n : ℕ). take n vs) count;
    }

-- A frame that was read is given by its kind, its code and its values, whatever stands behind these: what is allowed, the refusal and the
-- bytes are its own. Those without a writer are given as nothing, which is refused as they are.
record SameGiven (f : Frame) (g : Option Frame) : Type 0 where
  may : allowed_given g ≡ allowed f
  refusal : refusal_given g ≡ not_allowed (kind_of f)
  bytes : bytes_given g ≡ bytes_of f

abbrev given_by : Frame → List ℤ → Option Frame
given_by f rest = frame_given (kind_row (kind_of f)) (code_of (kind_of f)) (values f ++ rest)

other_given : (bs : List ℕ) (n : ℕ) (rest : List ℤ) → IsFrame bs (Other n) → SameGiven (Other n) (given_by (Other n) rest)
unfolding allowed bytes_of
other_given bs n rest i =
    let none : None ≡ given_by (Other n) rest = as_none n rest i.1 i.2 i.3 ∙ as_sentence 4 n rest refl in
    subst (SameGiven (Other n)) none (record { may = refl; refusal = refl; bytes = refl })

letters_given : (w : Letters) (rest : List ℤ) → SameGiven (Message (OtherLetters w)) (given_by (Message (OtherLetters w)) rest)
unfolding allowed bytes_of message_in_range message_bytes frame_given
letters_given w rest = record { may = refl; refusal = refl; bytes = refl }

same_given : (family : ℕ) (bs : List ℕ) (f : Frame) → read_one family bs ≡ Ok f → (rest : List ℤ) → SameGiven f (given_by f rest)
same_given family bs f good rest = by_writer (has_writer f) refl
  where
    without : (((n : ℕ) × (f ≡ Other n)) ⊎ ((w : Letters) × (f ≡ Message (OtherLetters w)))) → SameGiven f (given_by f rest)
    without (inl (n, is)) = subst (λ (k : Frame). SameGiven k (given_by k rest)) (sym is) (other_given bs n rest (subst (IsFrame bs) is ((exact family bs f).0 good).1))
    without (inr (w, is)) = subst (λ (k : Frame). SameGiven k (given_by k rest)) (sym is) (letters_given w rest)

    by_writer : (b : Bool) → has_writer f ≡ b → SameGiven f (given_by f rest)
    by_writer true e =
        let back = given_back f (read_allowed family bs f good e) rest in
        record { may = ap allowed_given back; refusal = ap refusal_given back; bytes = ap bytes_given back }
    by_writer false e = without (only_other f e)

-- So a row at the front of some numbers, passed on whole, is written as its record is.
module _ (family : ℕ) (bs : List ℕ) (f : Frame) (good : read_one family bs ≡ Ok f) (taken start skipped size : ℕ) (numbers : List ℤ)
    (shown : take (length (row taken start skipped size f)) numbers ≡ row taken start skipped size f) where
  pub passed_on : {out : List ℕ} {before answer : ℕ} {after : List ℕ} {told : ℕ}
      → WritesGiven (nat_abs (row_kind numbers)) (nat_abs (row_code numbers)) (row_values numbers) out before answer after told
      → WritesRecord f out before answer after told
  passed_on {out} {before} {answer} {after} {told} w =
      let r = row taken start skipped size f in
      let rest = drop (length r) numbers in
      let is : numbers ≡ r ++ rest = sym (take-append-drop (length r) numbers) ∙ ap (λ (l : List ℤ). l ++ rest) shown in
      let s = same_given family bs f good rest in
      let v : WritesGiven (kind_row (kind_of f)) (code_of (kind_of f)) (values f ++ rest) out before answer after told =
      subst (λ (l : List ℤ). WritesGiven (nat_abs (row_kind l)) (nat_abs (row_code l)) (row_values l) out before answer after told) is w in
      record {
        answers = rw (s.may, s.refusal, s.bytes) at v.answers;
        content = rw (s.may, s.bytes) at v.content;
        told = rw (s.may, s.refusal, s.bytes) at v.told;
      }

-- Of a row that `amp_read` laid,
pub read_passed_on : (family : ℕ) (bs : List ℕ) (was numbers : List ℤ) → ReadsRow family bs was 0 numbers
    → (f : Frame) × (read_one family bs ≡ Ok f)
    × ((out : List ℕ) (before answer : ℕ) (after : List ℕ) (told : ℕ)
    → WritesGiven (nat_abs (row_kind numbers)) (nat_abs (row_code numbers)) (row_values numbers) out before answer after told
    → WritesRecord f out before answer after told)
read_passed_on family bs was numbers e =
    let h = was_read family bs 0 0 0 was 0 numbers e refl in
    let r = row 0 0 0 (length bs) h.frame in
    let shown : take (length r) numbers ≡ r = ap (take (length r)) h.stands ∙ at_front r was in
    (h.frame, h.is-good, λ out before answer after told. passed_on family bs h.frame h.is-good 0 0 0 (length bs) numbers shown)

-- and of one that `amp_feed` laid.
pub fed_passed_on : {r : Reader} {offered : List ℕ} {after : Reader} {numbers : List ℤ} → RowCall r offered 0 after numbers
    → (x : ReadyType.Ready) → (fed r offered).answer ≡ Ok (Ready x)
    → {out : List ℕ} {before answer : ℕ} {left : List ℕ} {told : ℕ}
    → WritesGiven (nat_abs (row_kind numbers)) (nat_abs (row_code numbers)) (row_values numbers) out before answer left told
    → WritesRecord x.frame out before answer left told
fed_passed_on {numbers = numbers} c x e =
    let (family, bs, good) = subst WasRead (e) (fine c refl).1 in
    let shown = subst (λ (a : (Result Progress Refusal)). take (length (row_fed a)) numbers ≡ row_fed a) e (shows c refl) in
    passed_on family bs x.frame good x.taken x.start x.skipped x.length numbers shown
