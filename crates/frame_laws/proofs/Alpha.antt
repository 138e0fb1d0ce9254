-- Demand 2 for the Alpha's sentences: the reader of one frame is exact, each record in range reads back the same once
-- written, and what was read gives its own bytes if, and only if, it stood in the writer's form.
-- A sentence is its number and its texts in a frame that holds nothing else, so what is left are the laws of each kind
-- of record; the argument from them is made once, over the kind and its number. Assumes nothing.
use Prim.Native.Nat.{ℕ, ◌<◌}
use Rattle.rules.specs.declared.Refusal.TheVariants.{NotGood}
use Rattle.std.specs.Prelude.{Err, Ok}
use mathlib.Core.Path.{◌≡◌, refl, sym, ◌∙◌, ap, ap₂, subst}
use mathlib.Core.Bool.{Bool, true, cond, false≢true}
use mathlib.Core.List.{List}
use mathlib.Core.Logic.{◌↔◌, ◌≢◌}
use native.Mathlib.Omega.{arith}
use lib.Dec.{eqb, lit<}
use borrow.Author.Tests.{eqb-true, eqb-false, ne_eqb}
use Rattle.rules.specs.Numbers.{with_zeros}
use Rattle.rules.specs.Sentences.{is_sentence, payload_of, number_of, texts_of, is02, is03, is05, sentence02, sentence03, sentence05, in_range02, in_range03, in_range05, texts02, texts03, texts05, sentence_frame}
use Rattle.rules.specs.Answers.{read_texts, read_family2, read_one, kind_of, family_of, allowed, bytes_of, has_writer}
use Rattle.rules.specs.Form.{in_form}
use Rattle.rules.specs.declared.Frame.{Frame}
use Rattle.rules.specs.declared.Frame.TheVariants.{Ack, Status, Command, Apa02, Apa03, Apa05, Other, Message}
use Rattle.rules.specs.declared.Message as MessageType
use Rattle.frame_laws.proofs.Exact.{IsNumbered, texts_in, IsFrame}
use Rattle.frame_laws.proofs.Reading.{ReadsAs, choice, exact_for, refused_for, message_family}
use Rattle.frame_laws.proofs.Sentences.{payload, payload_good, payload_texts, payload_number, payload_parts, payload_back, frame_sentence, sentence_payload, sentence-frame}
use Rattle.frame_laws.proofs.SentenceRecords.{SentenceKind, kind02, kind03, kind05}
use Rattle.rules.specs.declared.Refusal.{Refusal}

-- What the answer of family 2 tells of the bytes.
tells : (bs : List ℕ) → ReadsAs 2 bs (read_one 2 bs)
unfolding read_one read_family2 read_texts
tells bs =
    let n = number_of (payload_of bs) in
    let ts = texts_of (payload_of bs) in
    choice (ReadsAs 2 bs) (is_sentence bs) _ _
    (λ s. choice (ReadsAs 2 bs) (eqb n 2) _ _
    (λ e2. choice (ReadsAs 2 bs) (is02 ts) _ _ (λ good. (refl, ((s, eqb-true n 2 e2), good, refl))) (λ bad. refl))
    (λ n2. choice (ReadsAs 2 bs) (eqb n 3) _ _
    (λ e3. choice (ReadsAs 2 bs) (is03 ts) _ _ (λ good. (refl, ((s, eqb-true n 3 e3), good, refl))) (λ bad. refl))
    (λ n3. choice (ReadsAs 2 bs) (eqb n 5) _ _
    (λ e5. choice (ReadsAs 2 bs) (is05 ts) _ _ (λ good. (refl, ((s, eqb-true n 5 e5), good, refl))) (λ bad. refl))
    (λ n5. (refl, ((s, refl), eqb-false n 2 n2, eqb-false n 3 n3, eqb-false n 5 n5))))))
    (λ no_sentence. refl)

-- texts that keep the field rules are read as their record, and those of another number as that number
module _ (ts : List (List ℕ)) where
  reads02 : is02 ts ≡ true → read_texts 2 ts ≡ Ok (Apa02 (sentence02 ts))
  unfolding read_texts
  reads02 good = rw good

  reads03 : is03 ts ≡ true → read_texts 3 ts ≡ Ok (Apa03 (sentence03 ts))
  unfolding read_texts
  reads03 good = rw good

  reads05 : is05 ts ≡ true → read_texts 5 ts ≡ Ok (Apa05 (sentence05 ts))
  unfolding read_texts
  reads05 good = rw good

  reads_other : (n : ℕ) → (n ≢ 2) → (n ≢ 3) → (n ≢ 5) → read_texts n ts ≡ Ok (Other n)
  unfolding read_texts
  reads_other n p q r = rw (ne_eqb n 2 p, ne_eqb n 3 q, ne_eqb n 5 r)

reads : (bs : List ℕ) → is_sentence bs ≡ true → read_one 2 bs ≡ read_texts (number_of (payload_of bs)) (texts_of (payload_of bs))
unfolding read_one read_family2
reads bs good = ap (λ b. cond b (read_texts (number_of (payload_of bs)) (texts_of (payload_of bs))) (Err NotGood)) good

numbered : (bs : List ℕ) (n : ℕ) → IsNumbered bs n → read_one 2 bs ≡ read_texts n (texts_in bs)
numbered bs n h = reads bs h.0 ∙ ap (λ m. read_texts m (texts_in bs)) h.1

-- A message is no sentence.
no_message : (m : MessageType.Message) → family_of (kind_of (Message m)) ≡ 2 → ⊥
no_message m alpha = omega (arith, message_family m)

-- each frame of the family is read
is_read : (bs : List ℕ) (f : Frame) → family_of (kind_of f) ≡ 2 → IsFrame bs f → read_one 2 bs ≡ Ok f
is_read bs (Ack c) alpha h = absurd (omega arith)
is_read bs (Status s) alpha h = absurd (omega arith)
is_read bs (Command c) alpha h = absurd (omega arith)
is_read bs (Apa02 r) alpha h = numbered bs 2 h.0 ∙ rw h.2 (reads02 (texts_in bs) h.1)
is_read bs (Apa03 r) alpha h = numbered bs 3 h.0 ∙ rw h.2 (reads03 (texts_in bs) h.1)
is_read bs (Apa05 r) alpha h = numbered bs 5 h.0 ∙ rw h.2 (reads05 (texts_in bs) h.1)
is_read bs (Other n) alpha h = numbered bs n h.0 ∙ reads_other (texts_in bs) n h.1 h.2 h.3
is_read bs (Message m) alpha h = absurd (no_message m alpha)

-- Bytes are read as a frame exactly where it is one of this family and they are it;
pub family2_exact : (bs : List ℕ) (f : Frame) → (read_one 2 bs ≡ Ok f) ↔ ((family_of (kind_of f) ≡ 2) × IsFrame bs f)
family2_exact bs = exact_for 2 bs (tells bs) (is_read bs)

-- where they are no such sentence, and only there, they are refused, with number 8.
pub family2_refused : (bs : List ℕ) (n : Refusal)
    → (read_one 2 bs ≡ Err n) ↔ (((f : Frame) → family_of (kind_of f) ≡ 2 → IsFrame bs f → ⊥) × (n ≡ NotGood))
family2_refused bs = refused_for 2 bs (tells bs) (is_read bs)

-- The argument for a kind of record and its number. What is written of a record in range is a sentence of that number
-- with the texts written,
module _ {R : Type 0} {is : List (List ℕ) → Bool} {read : List (List ℕ) → R} {write : R → List (List ℕ)} {in_range : R → Bool}
    {form : List (List ℕ) → Bool} (kind : SentenceKind is read write in_range form) (n : ℕ) (two_digits : n < 100) where
  texts_back : (r : R) → in_range r ≡ true → texts_of (payload_of (sentence_frame (payload n (write r)))) ≡ write r
  texts_back r fits = ap texts_of (payload_back (payload n (write r))) ∙ payload_texts n (write r) two_digits (kind.clean r fits)

  reads_written : (r : R) → in_range r ≡ true → read_one 2 (sentence_frame (payload n (write r))) ≡ read_texts n (write r)
  reads_written r fits =
      let p = payload n (write r) in
      let clean = kind.clean r fits in
      reads (sentence_frame p) (frame_sentence p (payload_good n (write r) two_digits clean (kind.short r fits)))
      ∙ ap₂ read_texts (ap number_of (payload_back p) ∙ payload_number n (write r) two_digits clean) (texts_back r fits)

  -- and a sentence of that number is what is written of its record exactly where its texts stood in the writer's form.
  written_again : (bs : List ℕ) → is_sentence bs ≡ true → number_of (payload_of bs) ≡ n → is (texts_of (payload_of bs)) ≡ true
      → (sentence_frame (payload n (write (read (texts_of (payload_of bs))))) ≡ bs) ↔ (form (texts_of (payload_of bs)) ≡ true)
  written_again bs sentence number good =
      let p = payload_of bs in
      let ts = texts_of p in
      let fits = kind.range ts good in
      let parts = sentence-frame bs sentence ∙ ap sentence_frame (payload_parts p (sentence_payload bs sentence)) in
      let own : sentence_frame (payload n ts) ≡ bs = ap (λ m. sentence_frame (payload m ts)) (sym number) ∙ sym parts in (
        λ e. subst (λ us. form us ≡ true) (sym (texts_back (read ts) fits) ∙ ap (λ b. texts_of (payload_of b)) e) (kind.full (read ts) fits),
        λ full. ap (λ us. sentence_frame (payload n us)) (kind.again ts good full) ∙ own,
      )

-- A record in range, once written, reads back the same. (An "other" sentence has no writer, and is never allowed.)
pub family2_back : (f : Frame) → family_of (kind_of f) ≡ 2 → allowed f ≡ true → read_one (family_of (kind_of f)) (bytes_of f) ≡ Ok f
unfolding allowed bytes_of with_zeros
family2_back (Ack c) alpha fits = absurd (omega arith)
family2_back (Status s) alpha fits = absurd (omega arith)
family2_back (Command c) alpha fits = absurd (omega arith)
family2_back (Apa02 r) alpha fits =
    reads_written kind02 2 (lit< tt) r fits ∙ reads02 (texts02 r) (kind02.good r fits) ∙ ap (λ x. Ok (Apa02 x)) (kind02.back r fits)
family2_back (Apa03 r) alpha fits =
    reads_written kind03 3 (lit< tt) r fits ∙ reads03 (texts03 r) (kind03.good r fits) ∙ ap (λ x. Ok (Apa03 x)) (kind03.back r fits)
family2_back (Apa05 r) alpha fits =
    reads_written kind05 5 (lit< tt) r fits ∙ reads05 (texts05 r) (kind05.good r fits) ∙ ap (λ x. Ok (Apa05 x)) (kind05.back r fits)
family2_back (Other n) alpha fits = absurd (false≢true fits)
family2_back (Message m) alpha fits = absurd (no_message m alpha)

-- What was read and has a writer may be written,
pub family2_allowed : (bs : List ℕ) (f : Frame) → read_one 2 bs ≡ Ok f → has_writer f ≡ true → allowed f ≡ true
unfolding allowed bytes_of
family2_allowed bs (Ack c) e writer = absurd (omega (arith, ((family2_exact bs (Ack c)).0 e).0))
family2_allowed bs (Status s) e writer = absurd (omega (arith, ((family2_exact bs (Status s)).0 e).0))
family2_allowed bs (Command c) e writer = absurd (omega (arith, ((family2_exact bs (Command c)).0 e).0))
family2_allowed bs (Apa02 r) e writer =
    let h = ((family2_exact bs (Apa02 r)).0 e).1 in
    ap in_range02 h.2 ∙ kind02.range (texts_in bs) h.1
family2_allowed bs (Apa03 r) e writer =
    let h = ((family2_exact bs (Apa03 r)).0 e).1 in
    ap in_range03 h.2 ∙ kind03.range (texts_in bs) h.1
family2_allowed bs (Apa05 r) e writer =
    let h = ((family2_exact bs (Apa05 r)).0 e).1 in
    ap in_range05 h.2 ∙ kind05.range (texts_in bs) h.1
family2_allowed bs (Other n) e writer = absurd (false≢true writer)
family2_allowed bs (Message m) e writer = absurd (no_message m ((family2_exact bs (Message m)).0 e).0)

-- and gives its own bytes if, and only if, it stood in the writer's form.
pub family2_again : (bs : List ℕ) (f : Frame) → read_one 2 bs ≡ Ok f → has_writer f ≡ true → (bytes_of f ≡ bs) ↔ (in_form f bs ≡ true)
unfolding bytes_of in_form with_zeros
family2_again bs (Ack c) e writer = absurd (omega (arith, ((family2_exact bs (Ack c)).0 e).0))
family2_again bs (Status s) e writer = absurd (omega (arith, ((family2_exact bs (Status s)).0 e).0))
family2_again bs (Command c) e writer = absurd (omega (arith, ((family2_exact bs (Command c)).0 e).0))
family2_again bs (Apa02 r) e writer =
    let h = ((family2_exact bs (Apa02 r)).0 e).1 in
    rw h.2 (written_again kind02 2 (lit< tt) bs h.0.0 h.0.1 h.1)
family2_again bs (Apa03 r) e writer =
    let h = ((family2_exact bs (Apa03 r)).0 e).1 in
    rw h.2 (written_again kind03 3 (lit< tt) bs h.0.0 h.0.1 h.1)
family2_again bs (Apa05 r) e writer =
    let h = ((family2_exact bs (Apa05 r)).0 e).1 in
    rw h.2 (written_again kind05 5 (lit< tt) bs h.0.0 h.0.1 h.1)
family2_again bs (Other n) e writer = absurd (false≢true writer)
family2_again bs (Message m) e writer = absurd (no_message m ((family2_exact bs (Message m)).0 e).0)
