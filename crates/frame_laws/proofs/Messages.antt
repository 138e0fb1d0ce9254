-- Demand 2 for the messages of the KPA1500, the writer: each record in range reads back the same once written, and what was
-- read gives its own bytes if, and only if, its letters were capitals.
-- A message is its letters and what stands behind them in a frame that holds nothing else; `MessageParts` says how each kind
-- is laid out, and the argument from that is made once. That reading is exact stands in `MessageReading`. Assumes nothing.
use Prim.Native.Nat.{ℕ, ◌-◌, ◌≤◌, ◌<◌}
use Rattle.std.specs.Prelude.{Ok}
use Prim.Native.Char.{code}
use mathlib.Core.Path.{◌≡◌, sym, ap, subst, subst⁻¹, ◌∙◌}
use mathlib.Core.Bool.{true}
use mathlib.Core.List.{List, [], ◌∷◌, ◌++◌, map}
use mathlib.Core.Logic.{◌↔◌}
use native.Mathlib.Omega.{arith}
use lib.ListN.{length, length-append}
use lib.Seq.{take_at}
use Rattle.rules.specs.Bytes.{every, first}
use Rattle.rules.specs.Messages.{is_body_byte, is_capital, is_letter, capital, letter_run, letters_in, behind_letters, body_of, message_frame, is_body, is_message, word_letters, message_in_range, message_bytes}
use Rattle.rules.specs.Answers.{read_one, kind_of, family_of, allowed, bytes_of, has_writer}
use Rattle.rules.specs.Form.{in_form}
use Rattle.rules.specs.declared.Message as MessageType
use Rattle.rules.specs.declared.Frame.{Frame}
use Rattle.rules.specs.declared.Frame.TheVariants.{Message}
use Rattle.frame_laws.proofs.Bytes.{tests, both_pass, bounds_between, same_eq, eq_same, every_append, every_split, every_weaker}
use Rattle.frame_laws.proofs.Exact.{IsBehind, IsFrame}
use Rattle.frame_laws.proofs.Letters.{capitals_letters, capitals_same, run_ends, run_front, letters_run, letters_behind, in_capitals}
use Rattle.frame_laws.proofs.Listed.{listed_capitals, listed_length}
use Rattle.frame_laws.proofs.MessageParts.{capital_byte, Laid, laid, behind_in_range, word_of, behind_text}
use Rattle.frame_laws.proofs.MessageReading.{capitals_in, behind_in, message_read, for_messages, family4_exact}

-- The frame: a body that is framed is found again, and is a message; and a message is its framed body.
pub body_back : (body : List ℕ) → body_of (message_frame body) ≡ body
body_back body = take_at body (code ";" ∷ []) (length (message_frame body) - 2) (omega (arith, length-append body (code ";" ∷ [])))

pub frame_message : (body : List ℕ) → is_body body ≡ true → is_message (message_frame body) ≡ true
unfolding is_message
frame_message body good =
    let bs = message_frame body in
    both_pass _ _ (eq_same bs (message_frame (body_of bs)) (ap message_frame (sym (body_back body)))) (ap is_body (body_back body) ∙ good)

pub message-frame : (bs : List ℕ) → is_message bs ≡ true → bs ≡ message_frame (body_of bs)
unfolding is_message
message-frame bs good = same_eq bs (message_frame (body_of bs)) (search tests)

-- The body that is laid out for a message in range is one,
abbrev laid_body : MessageType.Message → List ℕ
laid_body m = word_letters (word_of m) ++ behind_text m

-- what begins with letters begins with a letter
letters_first : (ls t : List ℕ) → every is_letter ls ≡ true → 0 < length ls → is_letter (first (ls ++ t)) ≡ true
letters_first [] t e some = absurd (omega arith)
letters_first (b ∷ ls) t e some = (every_split is_letter b ls e).0

module _ (m : MessageType.Message) (fits : message_in_range m ≡ true) where
  -- how it is laid out: its letters are capitals,
  laid_out : Laid m (word_of m) (behind_text m)
  laid_out = laid m fits

  capitals : every is_capital (word_letters (word_of m)) ≡ true
  capitals = listed_capitals (word_of m) laid_out.listed

  letters : every is_letter (word_letters (word_of m)) ≡ true
  letters = capitals_letters (word_letters (word_of m)) capitals

  -- it has 2 to 19 bytes, and they are those of a body,
  laid_length : (2 ≤ length (laid_body m)) × (length (laid_body m) ≤ 19)
  laid_length =
      omega (arith, length-append (word_letters (word_of m)) (behind_text m), listed_length (word_of m) laid_out.listed, laid_out.short)

  laid_is_body : is_body (laid_body m) ≡ true
  unfolding is_body
  laid_is_body =
      let long = bounds_between 1 38 (length (laid_body m)) (omega (arith, laid_length)) (omega (arith, laid_length)) in
      let bytes = every_weaker is_capital is_body_byte capital_byte (word_letters (word_of m)) capitals in
      let clean = every_append is_body_byte (word_letters (word_of m)) (behind_text m) bytes laid_out.plain.clean in
      let some : 0 < length (word_letters (word_of m)) = omega (arith, listed_length (word_of m) laid_out.listed) in
      both_pass _ _ (both_pass _ _ long clean) (letters_first (word_letters (word_of m)) (behind_text m) letters some)

  -- in which its letters and what stands behind them are found again, so that framed it is this message.
  laid_is_message : IsFrame (message_frame (laid_body m)) (Message m)
  laid_is_message =
      let ends = laid_out.plain.ends in
      let run = letters_run (word_letters (word_of m)) (behind_text m) letters ends in
      let found = ap letters_in (body_back (laid_body m)) ∙ ap (map capital) run ∙ capitals_same (word_letters (word_of m)) capitals in
      let rest = ap behind_letters (body_back (laid_body m)) ∙ letters_behind (word_letters (word_of m)) (behind_text m) letters ends in (
        frame_message (laid_body m) laid_is_body,
        (laid_out.letters (capitals_in (message_frame (laid_body m)))).1 found,
        subst⁻¹ (IsBehind m) rest laid_out.stands,
      )

  -- It has 4 to 21 bytes.
  pub message_length : (4 ≤ length (message_bytes m)) × (length (message_bytes m) ≤ 21)
  message_length = omega (arith, ap length laid_out.bytes, length-append (laid_body m) (code ";" ∷ []), laid_length)

-- A message in range, once written, reads back the same. (Letters that are not listed have no writer, and are never allowed.)
message_back : (m : MessageType.Message) → allowed (Message m) ≡ true → read_one 4 (bytes_of (Message m)) ≡ Ok (Message m)
unfolding allowed bytes_of
message_back m fits =
    subst⁻¹ (λ (bs : List ℕ). read_one 4 bs ≡ Ok (Message m)) (laid_out m fits).bytes
    (message_read (message_frame (laid_body m)) m (laid_is_message m fits))

pub family4_back : (f : Frame) → family_of (kind_of f) ≡ 4 → allowed f ≡ true → read_one 4 (bytes_of f) ≡ Ok f
family4_back = for_messages (λ (f : Frame). allowed f ≡ true → read_one 4 (bytes_of f) ≡ Ok f) message_back

-- What was read and has a writer may be written,
message_allowed : (bs : List ℕ) (m : MessageType.Message) → IsFrame bs (Message m)
    → has_writer (Message m) ≡ true → allowed (Message m) ≡ true
unfolding allowed
message_allowed bs m h writer = behind_in_range m (behind_in bs) writer h.2

pub family4_allowed : (bs : List ℕ) (f : Frame) → read_one 4 bs ≡ Ok f → has_writer f ≡ true → allowed f ≡ true
family4_allowed bs f e =
    let h = (family4_exact bs f).0 e in
    for_messages (λ (k : Frame). IsFrame bs k → has_writer k ≡ true → allowed k ≡ true) (message_allowed bs) f h.0 h.1

-- and is written as its letters in capitals and what stood behind them;
module _ (bs : List ℕ) (m : MessageType.Message) (h : IsFrame bs (Message m)) (writer : has_writer (Message m) ≡ true) where
  own_layout : Laid m (word_of m) (behind_text m)
  own_layout = laid m (behind_in_range m (behind_in bs) writer h.2)

  written : message_bytes m ≡ message_frame (capitals_in bs ++ behind_in bs)
  written =
      let letters = sym ((own_layout.letters (capitals_in bs)).0 h.1) in
      let behind_them = sym (own_layout.only (behind_in bs) h.2) in
      own_layout.bytes ∙ (λ i. message_frame (letters i ++ behind_them i))

  -- in these bytes the capitals are found, and where its letters were capitals they are its own.
  found_again : message_bytes m ≡ bs → capitals_in bs ≡ letter_run (body_of bs)
  found_again e =
      let capitals = capitals_letters (capitals_in bs) (in_capitals (body_of bs)) in
      sym (letters_run (capitals_in bs) (behind_in bs) capitals (run_ends (body_of bs)))
      ∙ ap letter_run (sym (body_back (capitals_in bs ++ behind_in bs)) ∙ ap body_of (sym written ∙ e))

  own_again : every is_capital (letter_run (body_of bs)) ≡ true → message_bytes m ≡ bs
  own_again e =
      let same_letters = ap (λ (l : List ℕ). l ++ behind_in bs) (capitals_same (letter_run (body_of bs)) e) in
      written ∙ ap message_frame (same_letters ∙ run_front (body_of bs)) ∙ sym (message-frame bs h.0)

  message_again : (bytes_of (Message m) ≡ bs) ↔ (in_form (Message m) bs ≡ true)
  unfolding bytes_of in_form
  message_again =
      let form = own_layout.form (body_of bs) in (
        λ e. form ∙ subst (λ (l : List ℕ). every is_capital l ≡ true) (found_again e) (in_capitals (body_of bs)),
        λ e. own_again (sym form ∙ e),
      )

-- So it gives its own bytes if, and only if, its letters were capitals.
pub family4_again : (bs : List ℕ) (f : Frame) → read_one 4 bs ≡ Ok f → has_writer f ≡ true → (bytes_of f ≡ bs) ↔ (in_form f bs ≡ true)
family4_again bs f e =
    let h = (family4_exact bs f).0 e in
    for_messages (λ (k : Frame). IsFrame bs k → has_writer k ≡ true → (bytes_of k ≡ bs) ↔ (in_form k bs ≡ true))
    (message_again bs) f h.0 h.1
