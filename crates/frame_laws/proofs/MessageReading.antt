-- Demand 2 for the messages of the KPA1500, the reader: it is exact, and refuses what is no message with number 8.
-- What may stand behind the letters is known by their number, and a listed number is that of one row of capitals only, so the
-- cases of `behind` are those of a message. Assumes nothing.
use Prim.Native.Nat.{ℕ, ◌<◌}
use Rattle.rules.specs.Answers.{Read}
use Rattle.rules.specs.declared.Refusal.TheVariants.{NotGood}
use Rattle.std.specs.Prelude.{Err, Ok}
use mathlib.Core.Path.{◌≡◌, refl, sym, ap, ◌∙◌}
use mathlib.Core.Bool.{Bool, true, ◌&&◌, cond, false≢true}
use mathlib.Core.List.{List, [], ◌∷◌}
use mathlib.Core.Logic.{◌↔◌}
use native.Mathlib.Omega.{arith}
use lib.ListN.{length}
use borrow.Author.Tests.{eqb-true}
use Rattle.rules.specs.Bytes.{ascii, one_of, same}
use Rattle.rules.specs.Messages.{letters_in, behind_letters, body_of, is_message, word_from, word, without_zeros, word_letters, as_letters, behind, is_number, are_pairs, version_marks, clock_marks, clock_of, clock_in_range, is_asked}
use Rattle.rules.specs.Answers.{read_one, read_family4, read_body, read_behind, or_question, message_if, kind_of, family_of}
use Rattle.rules.specs.declared.Letters.{Letters}
use Rattle.rules.specs.declared.Behind.{Behind}
use Rattle.rules.specs.declared.Behind.TheVariants.{ANumber, AVersion, AClock, Alone, Anything}
use Rattle.rules.specs.declared.Message as MessageType
use Rattle.rules.specs.declared.Message.TheVariants.{Question, Number, Version, Clock, Tune, OtherLetters}
use Rattle.rules.specs.declared.Frame.{Frame}
use Rattle.rules.specs.declared.Frame.TheVariants.{Ack, Status, Command, Apa02, Apa03, Apa05, Other, Message}
use Rattle.frame_laws.proofs.Bytes.{tests, same_eq, eq_same}
use Rattle.frame_laws.proofs.Exact.{IsFrame}
use Rattle.frame_laws.proofs.Reading.{ReadsAs, choice, exact_for, refused_for}
use Rattle.frame_laws.proofs.Letters.{in_capitals}
use Rattle.frame_laws.proofs.Pairs.{pairs_length}
use Rattle.frame_laws.proofs.Listed.{is_listed, asked_listed, listed_word, listed_letters, number_fits, version_word, clock_word, alone_word}
use Rattle.rules.specs.declared.Refusal.{Refusal}

-- Letters with nothing behind them are a question, and with something what is read of that.
question_or : (P : Read → Type 0) (n : ℕ) (t : List ℕ) (r : Read)
    → (t ≡ [] → P (Ok (Message (Question n)))) → P r → P (or_question n t r)
question_or P n [] r asked told = asked refl
question_or P n (b ∷ t) r asked told = told

-- The letters in a message, their number, and what stands behind them.
abbrev pub capitals_in : List ℕ → List ℕ
capitals_in bs = letters_in (body_of bs)

abbrev pub word_in : List ℕ → ℕ
word_in bs = word (capitals_in bs)

abbrev pub behind_in : List ℕ → List ℕ
behind_in bs = behind_letters (body_of bs)

-- What the answer tells of a message, by what may stand behind its letters;
module _ (bs : List ℕ) (good : is_message bs ≡ true) where
  -- listed letters are those that their number stands for
  own_letters : is_listed (behind (word_in bs)) ≡ true → capitals_in bs ≡ word_letters (word_in bs)
  own_letters listed = listed_letters (capitals_in bs) (in_capitals (body_of bs)) listed

  -- a question
  question : is_asked (behind (word_in bs)) ≡ true → behind_in bs ≡ [] → ReadsAs 4 bs (Ok (Message (Question (word_in bs))))
  question asked none = (refl, (good, own_letters (asked_listed (behind (word_in bs)) asked), (asked, none)))

  -- and, by cases, a question or a response
  tells_behind : (b : Behind) → behind (word_in bs) ≡ b → ReadsAs 4 bs (read_behind (word_in bs) (as_letters (capitals_in bs)) b (behind_in bs))
  unfolding word_from word_letters without_zeros
  tells_behind (ANumber width limit) e =
      question_or (ReadsAs 4 bs) (word_in bs) (behind_in bs) _ (question (rw e))
      (choice (ReadsAs 4 bs) (is_number width limit (behind_in bs)) _ _
      (λ fits. (refl, (good, own_letters (rw e), (width, limit, e, fits, refl)))) (λ bad. refl))
  tells_behind AVersion e =
      let letters = own_letters (rw e) ∙ ap word_letters (version_word (word_in bs) e) in
      question_or (ReadsAs 4 bs) (word_in bs) (behind_in bs) _ (question (rw e))
      (choice (ReadsAs 4 bs) (are_pairs version_marks (behind_in bs)) _ _ (λ fits. (refl, (good, letters, (fits, refl, refl)))) (λ bad. refl))
  tells_behind AClock e =
      let letters = own_letters (rw e) ∙ ap word_letters (clock_word (word_in bs) e) in
      question_or (ReadsAs 4 bs) (word_in bs) (behind_in bs) _ (question (rw e))
      (choice (ReadsAs 4 bs) (are_pairs clock_marks (behind_in bs) && clock_in_range (clock_of (behind_in bs))) _ _
      (λ fits. (refl, (good, letters, (search tests, search tests, refl)))) (λ bad. refl))
  tells_behind Alone e =
      let letters = own_letters (rw e) ∙ ap word_letters (alone_word (word_in bs) e) in
      choice (ReadsAs 4 bs) (same (behind_in bs) []) _ _ (λ none. (refl, (good, letters, same_eq (behind_in bs) [] none))) (λ bad. refl)
  tells_behind Anything e = (refl, (good, (e, refl), tt))

-- and of any bytes.
tells : (bs : List ℕ) → ReadsAs 4 bs (read_one 4 bs)
unfolding read_one read_family4 read_body
tells bs = choice (ReadsAs 4 bs) (is_message bs) _ _ (λ good. tells_behind bs good (behind (word_in bs)) refl) (λ none. refl)

-- A message is read as what its letters and what stands behind them say;
reads : (bs : List ℕ) (n : ℕ) (b : Behind) → is_message bs ≡ true → word_in bs ≡ n → behind n ≡ b
    → read_one 4 bs ≡ read_behind n (as_letters (capitals_in bs)) b (behind_in bs)
unfolding read_one read_family4 read_body
reads bs n b good p q =
    (λ i. cond (good i) (read_behind (p i) (as_letters (capitals_in bs)) (behind (p i)) (behind_in bs)) (Err NotGood))
    ∙ (λ i. read_behind n (as_letters (capitals_in bs)) (q i) (behind_in bs))

-- a question where one may be asked, and a response where something stands.
reads_question : (n : ℕ) (w : Letters) (b : Behind) (t : List ℕ) → is_asked b ≡ true → t ≡ []
    → read_behind n w b t ≡ Ok (Message (Question n))
reads_question n w (ANumber width limit) t e none = rw none
reads_question n w AVersion t e none = rw none
reads_question n w AClock t e none = rw none
reads_question n w Alone t e none = absurd (false≢true e)
reads_question n w Anything t e none = absurd (false≢true e)

reads_response : (n : ℕ) (t : List ℕ) (r : Read) → 0 < length t → or_question n t r ≡ r
reads_response n [] r some = absurd (omega arith)
reads_response n (b ∷ t) r some = refl

-- Each message is read.
pub message_read : (bs : List ℕ) (m : MessageType.Message) → IsFrame bs (Message m) → read_one 4 bs ≡ Ok (Message m)
unfolding is_number behind one_of word_from
message_read bs (Question n) h =
    reads bs n (behind n) h.0 (ap word h.1 ∙ listed_word n (asked_listed (behind n) h.2.0)) refl
    ∙ reads_question n (as_letters (capitals_in bs)) (behind n) (behind_in bs) h.2.0 h.2.1
message_read bs (Number n k) h =
    let e = h.2.2 in
    let fits = h.2.3 in
    let long : length (behind_in bs) ≡ h.2.0 = eqb-true (length (behind_in bs)) h.2.0 (search tests) in
    let some : 0 < length (behind_in bs) = omega (arith, number_fits n h.2.0 h.2.1 e) in
    reads bs n (ANumber h.2.0 h.2.1) h.0 (ap word h.1 ∙ listed_word n (rw e)) e
    ∙ reads_response n (behind_in bs) _ some
    ∙ (λ i. message_if (fits i) (Number n (sym h.2.4 i)))
message_read bs (Version a b) h =
    reads bs (word (ascii "RV")) AVersion h.0 (ap word h.1) refl
    ∙ reads_response (word (ascii "RV")) (behind_in bs) _ (omega (arith, pairs_length version_marks (behind_in bs) h.2.0))
    ∙ (λ i. message_if (h.2.0 i) (Version (sym h.2.1 i) (sym h.2.2 i)))
message_read bs (Clock c) h =
    let own = sym h.2.2 in
    reads bs (word (ascii "CC")) AClock h.0 (ap word h.1) refl
    ∙ reads_response (word (ascii "CC")) (behind_in bs) _ (omega (arith, pairs_length clock_marks (behind_in bs) h.2.0))
    ∙ (λ i. message_if (h.2.0 i && clock_in_range (own i)) (Clock (own i)))
    ∙ (λ i. message_if (h.2.1 i) (Clock c))
message_read bs Tune h =
    reads bs (word (ascii "FT")) Alone h.0 (ap word h.1) refl ∙ ap (λ (x : Bool). message_if x Tune) (eq_same (behind_in bs) [] h.2)
message_read bs (OtherLetters w) h =
    reads bs (word_in bs) Anything h.0 refl h.1.0 ∙ ap (λ (x : Letters). Ok (Message (OtherLetters x))) (sym h.1.1)

-- What holds of messages holds of frames of family 4,
pub for_messages : (P : Frame → Type 0) → ((m : MessageType.Message) → P (Message m)) → (f : Frame) → family_of (kind_of f) ≡ 4 → P f
for_messages P each (Ack c) own = absurd (omega arith)
for_messages P each (Status s) own = absurd (omega arith)
for_messages P each (Command c) own = absurd (omega arith)
for_messages P each (Apa02 r) own = absurd (omega arith)
for_messages P each (Apa03 r) own = absurd (omega arith)
for_messages P each (Apa05 r) own = absurd (omega arith)
for_messages P each (Other n) own = absurd (omega arith)
for_messages P each (Message m) own = each m

-- so each frame of the family is read.
is_read : (bs : List ℕ) (f : Frame) → family_of (kind_of f) ≡ 4 → IsFrame bs f → read_one 4 bs ≡ Ok f
is_read bs = for_messages (λ (k : Frame). IsFrame bs k → read_one 4 bs ≡ Ok k) (message_read bs)

-- Bytes are read as a frame exactly where it is one of this family and they are it;
pub family4_exact : (bs : List ℕ) (f : Frame) → (read_one 4 bs ≡ Ok f) ↔ ((family_of (kind_of f) ≡ 4) × IsFrame bs f)
family4_exact bs = exact_for 4 bs (tells bs) (is_read bs)

-- where they are no message, and only there, they are refused, with number 8.
pub family4_refused : (bs : List ℕ) (n : Refusal)
    → (read_one 4 bs ≡ Err n) ↔ (((f : Frame) → family_of (kind_of f) ≡ 4 → IsFrame bs f → ⊥) × (n ≡ NotGood))
family4_refused bs = refused_for 4 bs (tells bs) (is_read bs)
