-- What it is to be a frame, as a whole, for each kind of frame: by the definitions, without the reader. Assumes nothing.
use Prim.Native.Nat.{ℕ}
use mathlib.Core.Path.{◌≡◌}
use mathlib.Core.Bool.{true}
use mathlib.Core.List.{List, []}
use mathlib.Core.Logic.{◌≢◌}
use Rattle.rules.specs.Codes.{is_code, is_ack_code, command, ack}
use Rattle.rules.specs.Status.{is_status, status_in}
use Rattle.rules.specs.Sentences.{is_sentence, payload_of, number_of, texts_of, is02, is03, is05, sentence02, sentence03, sentence05}
use Rattle.rules.specs.Bytes.{ascii}
use Rattle.rules.specs.Numbers.{decimal}
use Rattle.rules.specs.Messages.{is_message, body_of, letters_in, behind_letters, word, word_letters, as_letters, behind, is_asked, is_number, are_pairs, pair_at, version_marks, clock_marks, clock_of, clock_in_range}
use Rattle.rules.specs.declared.Behind.TheVariants.{ANumber, Anything}
use Rattle.rules.specs.declared.Message as MessageType
use Rattle.rules.specs.declared.Message.TheVariants.{Question, Number, Version, Clock, Tune, OtherLetters}
use Rattle.rules.specs.declared.Frame.{Frame}
use Rattle.rules.specs.declared.Frame.TheVariants.{Ack, Status, Command, Apa02, Apa03, Apa05, Other, Message}

-- The bytes are a sentence of this number; and the texts of a sentence.
abbrev pub IsNumbered : List ℕ → ℕ → Type 0
IsNumbered bs n = (is_sentence bs ≡ true) × (number_of (payload_of bs) ≡ n)

abbrev pub texts_in : List ℕ → List (List ℕ)
texts_in bs = texts_of (payload_of bs)

-- The letters of a message, read as capitals: those that its number stands for, those of its kind, or some that are not
-- listed, whose ten numbers hold them.
abbrev pub AreLetters : MessageType.Message → List ℕ → Type 0
AreLetters (Question n) letters = letters ≡ word_letters n
AreLetters (Number n k) letters = letters ≡ word_letters n
AreLetters (Version a b) letters = letters ≡ ascii "RV"
AreLetters (Clock c) letters = letters ≡ ascii "CC"
AreLetters Tune letters = letters ≡ ascii "FT"
AreLetters (OtherLetters w) letters = (behind (word letters) ≡ Anything) × (w ≡ as_letters letters)

-- What stands behind them: nothing, where a question may be asked; a number with all its digits, up to its limit; a version;
-- a real date and time; nothing behind FT; and behind letters that are not listed anything.
abbrev pub IsBehind : MessageType.Message → List ℕ → Type 0
IsBehind (Question n) t = (is_asked (behind n) ≡ true) × (t ≡ [])
IsBehind (Number n k) t =
    (width : ℕ) × (limit : ℕ) × (behind n ≡ ANumber width limit) × (is_number width limit t ≡ true) × (k ≡ decimal t)
IsBehind (Version a b) t = (are_pairs version_marks t ≡ true) × (a ≡ pair_at t 0) × (b ≡ pair_at t 1)
IsBehind (Clock c) t = (are_pairs clock_marks t ≡ true) × (clock_in_range c ≡ true) × (c ≡ clock_of t)
IsBehind Tune t = t ≡ []
IsBehind (OtherLetters w) t = Unit

-- These bytes are this frame, by the definitions: a packet of a code that is allowed; a good report, with its
-- record; a sentence; or a message, with its letters and what stands behind them. A sentence numbered 02, 03 or 05 keeps its
-- field rules, and its record holds the values of its texts; any other number says itself.
abbrev pub IsFrame : List ℕ → Frame → Type 0
IsFrame bs (Ack c) = (bs ≡ ack c) × (is_ack_code c ≡ true)
IsFrame bs (Status s) = (is_status bs ≡ true) × (s ≡ status_in bs)
IsFrame bs (Command c) = (bs ≡ command c) × (is_code c ≡ true)
IsFrame bs (Apa02 r) = IsNumbered bs 2 × (is02 (texts_in bs) ≡ true) × (r ≡ sentence02 (texts_in bs))
IsFrame bs (Apa03 r) = IsNumbered bs 3 × (is03 (texts_in bs) ≡ true) × (r ≡ sentence03 (texts_in bs))
IsFrame bs (Apa05 r) = IsNumbered bs 5 × (is05 (texts_in bs) ≡ true) × (r ≡ sentence05 (texts_in bs))
IsFrame bs (Other n) = IsNumbered bs n × (n ≢ 2) × (n ≢ 3) × (n ≢ 5)
IsFrame bs (Message m) = (is_message bs ≡ true) × AreLetters m (letters_in (body_of bs)) × IsBehind m (behind_letters (body_of bs))
