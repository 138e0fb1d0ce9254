-- Rows tell answers apart. From a row the answer can be had again, so two answers with one row are equal; and in the numbers that a
-- call left, kind and code tell how long the row is, so one row in them is that of one answer.
-- Assumes nothing.
use Prim.Native.Nat.{ℕ, ◌+◌, ◌<◌}
use Rattle.rules.specs.declared.Refusal.{Refusal}
use Rattle.stream_rules.specs.declared.Progress.{Progress}
use Rattle.stream_rules.specs.declared.Progress.TheVariants.{Done, More, Ready}
use Rattle.std.specs.Prelude.{Err, Ok, Result}
use mathlib.Core.Path.{◌≡◌, refl, sym, ap, ◌∙◌}
use mathlib.Core.Bool.{false, cond}
use mathlib.Core.List.{List}
use native.Mathlib.Nat.{mod-eq_of_lt}
use native.Mathlib.Omega.{arith}
use lib.Dec.{eqb}
use lib.IntN.{ℤ, pos, nat_abs}
use lib.ListN.{length, take, drop, get_or}
use lib.Seq.{get_or-take}
use Rattle.rules.specs.Sentences.{numbers02, numbers03}
use Rattle.rules.specs.Answers.{read_one, kind_of, values}
use Rattle.rules.specs.declared.Message as MessageType
use Rattle.rules.specs.declared.Message.TheVariants.{Question, Number, Version, Clock, Tune, OtherLetters}
use Rattle.rules.specs.declared.Kind.{Kind}
use Rattle.rules.specs.declared.Kind.TheVariants.{OfAck, OfStatus, OfCommand, OfSentence, OfQuestion, OfResponse, OfLetters}
use Rattle.rules.specs.declared.Frame.{Frame}
use Rattle.rules.specs.declared.Frame.TheVariants.{Ack, Status, Command, Apa02, Apa03, Apa05, Other, Message}
use Rattle.stream_rules.specs.declared.Ready as ReadyType
use Rattle.demands.proofs.Values.{at, status_of, of02, of03, of05, clock_of, letters_of}
use Rattle.rows.specs.Rows.{more_row, done_row, heading_length, kind_row, code_of, row_fed}
use Rattle.boundary.specs.RowSessions.{most_lent}
use Rattle.boundary.specs.Passed.{value_count}
use Rattle.boundary.proofs.Counts.{count_of, counted}

-- The frame of a kind, a code and values. Sentences of one number, and responses of the same letters, differ in how many values they have.
abbrev sentence_from : ℕ → List ℤ → Frame
sentence_from n vs =
    cond (eqb (length vs) 13) (Apa02 (of02 vs))
    (cond (eqb (length vs) 9) (Apa03 (of03 vs))
    (cond (eqb (length vs) 11) (Apa05 (of05 vs))
    (Other n)))

abbrev response_from : ℕ → List ℤ → MessageType.Message
response_from letters vs =
    cond (eqb (length vs) 1) (Number letters (at vs 0))
    (cond (eqb (length vs) 2) (Version (at vs 0) (at vs 1))
    (cond (eqb (length vs) 6) (Clock (clock_of vs))
    Tune))

abbrev frame_from : ℕ → ℕ → List ℤ → Frame
frame_from kind code vs =
    cond (eqb kind 1) (Ack code)
    (cond (eqb kind 2) (Status (status_of vs))
    (cond (eqb kind 3) (Command code)
    (cond (eqb kind 4) (sentence_from code vs)
    (cond (eqb kind 7) (Message (Question code))
    (cond (eqb kind 8) (Message (response_from code vs))
    (Message (OtherLetters (letters_of vs))))))))

frame_back : (f : Frame) → frame_from (kind_row (kind_of f)) (code_of (kind_of f)) (values f) ≡ f
unfolding numbers02 numbers03
frame_back (Ack c) = refl
frame_back (Status s) = refl
frame_back (Command c) = refl
frame_back (Apa02 r) = refl
frame_back (Apa03 r) = refl
frame_back (Apa05 r) = refl
frame_back (Other n) = refl
frame_back (Message (Question letters)) = refl
frame_back (Message (Number letters n)) = refl
frame_back (Message (Version a b)) = refl
frame_back (Message (Clock c)) = refl
frame_back (Message Tune) = refl
frame_back (Message (OtherLetters w)) = refl

-- A frame's row is neither that of more wanted nor that of done.
pub of_frame : (k : Kind) → (eqb (kind_row k) more_row ≡ false) × (eqb (kind_row k) done_row ≡ false)
of_frame (OfAck c) = (refl, refl)
of_frame OfStatus = (refl, refl)
of_frame (OfCommand c) = (refl, refl)
of_frame (OfSentence n) = (refl, refl)
of_frame (OfQuestion letters) = (refl, refl)
of_frame (OfResponse letters) = (refl, refl)
of_frame (OfLetters w) = (refl, refl)

-- The answer of a row.
abbrev ready_from : List ℤ → ReadyType.Ready
ready_from numbers = record {
  taken = at numbers 2;
  start = at numbers 3;
  skipped = at numbers 4;
  length = at numbers 5;
  frame = frame_from (at numbers 0) (at numbers 1) (drop heading_length numbers);
}

abbrev answer_from : List ℤ → (Result Progress Refusal)
answer_from numbers =
    cond (eqb (at numbers 0) more_row) (Ok (More (at numbers 2)))
    (cond (eqb (at numbers 0) done_row) (Ok (Done (at numbers 2)))
    (Ok (Ready (ready_from numbers))))

-- An answer that has a row, with counts that C can have: nothing that it lends is longer.
abbrev pub Lendable : (Result Progress Refusal) → Type 0
Lendable (Ok (Ready x)) = (x.taken < most_lent) × (x.length < most_lent)
Lendable (Ok (More n)) = n < most_lent
Lendable (Ok (Done n)) = n < most_lent
Lendable (Err n) = ⊥

ready_back : (x : ReadyType.Ready) → Lendable (Ok (Ready x)) → ready_from (row_fed (Ok (Ready x))) ≡ x
ready_back x s i = record {
  taken = mod-eq_of_lt s.0 i;
  start = x.start;
  skipped = x.skipped;
  length = mod-eq_of_lt s.1 i;
  frame = frame_back x.frame i;
}

answer_back : (a : (Result Progress Refusal)) → Lendable a → answer_from (row_fed a) ≡ a
answer_back (Ok (Ready x)) s = rw ((of_frame (kind_of x.frame)).0, (of_frame (kind_of x.frame)).1) (ap (λ (r : ReadyType.Ready). Ok (Ready r)) (ready_back x s))
answer_back (Ok (More n)) s = ap (λ (m : ℕ). Ok (More m)) (mod-eq_of_lt s)
answer_back (Ok (Done n)) s = ap (λ (m : ℕ). Ok (Done m)) (mod-eq_of_lt s)
answer_back (Err n) s = absurd s

-- Two answers with one row are equal.
pub rows_apart : (a b : (Result Progress Refusal)) → Lendable a → Lendable b → row_fed a ≡ row_fed b → a ≡ b
rows_apart a b s t e = sym (answer_back a s) ∙ ap answer_from e ∙ answer_back b t

-- An answer as a call gives it: its frame was read from some bytes.
abbrev pub WasRead : (Result Progress Refusal) → Type 0
WasRead (Ok (Ready x)) = (family : ℕ) × (bytes : List ℕ) × (read_one family bytes ≡ Ok x.frame)
WasRead (Ok (More n)) = Unit {0}
WasRead (Ok (Done n)) = Unit {0}
WasRead (Err n) = ⊥

-- The length of its row is told by the row's kind and code.
ready_length : (x : ReadyType.Ready) → WasRead (Ok (Ready x)) → length (row_fed (Ok (Ready x))) ≡ heading_length + count_of x.frame
ready_length x (family, bytes, e) = omega (arith, counted family bytes x.frame e)

told_length : (a : (Result Progress Refusal)) → WasRead a → length (row_fed a) ≡ heading_length + value_count (at (row_fed a) 0) (at (row_fed a) 1)
unfolding value_count
told_length (Ok (Ready x)) g = ready_length x g
told_length (Ok (More n)) g = refl
told_length (Ok (Done n)) g = refl
told_length (Err n) g = absurd g

-- Where the row of an answer stands at the front of some numbers, its kind and its code are the first of them.
module _ (row : List ℤ) (a : (Result Progress Refusal)) (g : WasRead a) (shown : take (length (row_fed a)) row ≡ row_fed a) where
  first : (i : ℕ) → i < 6 → at row i ≡ at (row_fed a) i
  first i small = ap nat_abs (sym (get_or-take (length (row_fed a)) row i (pos 0) (omega (arith, told_length a g))) ∙ ap (λ (r : List ℤ). get_or r i (pos 0)) shown)

  told_here : length (row_fed a) ≡ heading_length + value_count (at row 0) (at row 1)
  told_here = told_length a g ∙ sym (ap (λ (k : ℕ). heading_length + value_count k (at row 1)) (first 0 (omega arith)) ∙ ap (λ (c : ℕ). heading_length + value_count (at (row_fed a) 0) c) (first 1 (omega arith)))

-- So what a call leaves in the lent numbers is the row of one answer only.
pub one_answer : (row : List ℤ) (a b : (Result Progress Refusal)) → WasRead a → WasRead b → Lendable a → Lendable b
    → take (length (row_fed a)) row ≡ row_fed a → take (length (row_fed b)) row ≡ row_fed b → a ≡ b
one_answer row a b g h s t p q =
    let long : length (row_fed a) ≡ length (row_fed b) = told_here row a g p ∙ sym (told_here row b h q) in
    rows_apart a b s t (sym p ∙ ap (λ (n : ℕ). take n row) long ∙ q)
