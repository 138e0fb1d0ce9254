-- The answers: what a reader of one frame gives and what a writer gives and leaves, the refusals and their order.
use Rattle.std.specs.Prelude.{ℕ, ◌≡◌, Bool, true, false, ◌&&◌, cond, not, List, [], ◌∷◌, ◌++◌, map, eqb, leb, ℤ, pos, Result, Ok, Err, length, drop, get_or}
use Rattle.rules.specs.Bytes.{ascii, one_of, same}
use Rattle.rules.specs.Codes.{is_code, is_ack_code, is_ack, is_command, ack, command}
use Rattle.rules.specs.Status.{is_status, status_in, status_in_range, status_bytes}
use Rattle.rules.specs.Sentences.{is_sentence, payload_of, number_of, texts_of, is02, is03, is05, sentence02, sentence03, sentence05, in_range02, in_range03, in_range05, numbers02, numbers03, bytes02, bytes03, bytes05}
use Rattle.rules.specs.Messages.{is_message, body_of, letters_in, behind_letters, word, as_letters, behind, is_number, are_pairs, pair_at, version_marks, clock_marks, clock_of, clock_in_range, message_in_range, message_bytes, message_numbers}
use Rattle.rules.specs.Numbers.{decimal}
use Rattle.rules.specs.declared.Status as StatusType
use Rattle.rules.specs.declared.Sentence05.{Sentence05}
use Rattle.rules.specs.declared.Letters.{Letters}
use Rattle.rules.specs.declared.Behind.{Behind}
use Rattle.rules.specs.declared.Behind.TheVariants.{ANumber, AVersion, AClock, Alone, Anything}
use Rattle.rules.specs.declared.Message as MessageType
use Rattle.rules.specs.declared.Message.TheVariants.{Question, Number, Version, Clock, Tune, OtherLetters}
use Rattle.rules.specs.declared.Frame.{Frame}
use Rattle.rules.specs.declared.Frame.TheVariants.{Ack, Status, Command, Apa02, Apa03, Apa05, Other, Message}
use Rattle.rules.specs.declared.Kind.{Kind}
use Rattle.rules.specs.declared.Kind.TheVariants.{OfAck, OfStatus, OfCommand, OfSentence, OfQuestion, OfResponse, OfLetters}
use Rattle.rules.specs.declared.Refusal.{Refusal}
use Rattle.rules.specs.declared.Refusal.TheVariants.{NoFamily, NoCode, NoRecord, NoRoom, NotGood}
use Rattle.rules.specs.Refusals.{no_family, no_room, not_good, number_for}

-- what a reader of one frame answers, and a writer: how many bytes it wrote
abbrev pub Read : Type 0
Read = Result Frame Refusal

abbrev pub Wrote : Type 0
Wrote = Result ℕ Refusal

-- The numbers of the families: replies of an SPE amplifier, sentences of the Alpha 9500, commands to an SPE amplifier, and
-- messages to and from a KPA1500.
abbrev pub replies : ℕ
replies = 1

abbrev pub sentences : ℕ
sentences = 2

abbrev pub commands : ℕ
commands = 3

abbrev pub messages : ℕ
messages = 4

-- The kinds of answers that are no refusals: a frame of its kind, more bytes wanted, a stream that is done, a length
-- written, starts listed, and a call accepted.
pub data Answered : Type 0 where
  a_frame : Kind → Answered
  more_wanted : Answered
  now_done : Answered
  length_written : Answered
  starts_listed : Answered
  accepted : Answered

-- What an answer says in the terms of document 01: no, with its number only; or yes, with its kind and its values in their
-- order.
pub data Says : Type 0 where
  no : ℕ → Says
  yes : Answered → List ℤ → Says

-- The kind of a message: a question, a response, or letters that are not listed.
abbrev pub message_kind : MessageType.Message → Kind
message_kind (Question letters) = OfQuestion letters
message_kind (Number letters n) = OfResponse letters
message_kind (Version a b) = OfResponse (word (ascii "RV"))
message_kind (Clock c) = OfResponse (word (ascii "CC"))
message_kind Tune = OfResponse (word (ascii "FT"))
message_kind (OtherLetters w) = OfLetters w

-- The kind of a frame, as a listing tells them apart.
abbrev pub kind_of : Frame → Kind
kind_of (Ack c) = OfAck c
kind_of (Status s) = OfStatus
kind_of (Command c) = OfCommand c
kind_of (Apa02 r) = OfSentence 2
kind_of (Apa03 r) = OfSentence 3
kind_of (Apa05 r) = OfSentence 5
kind_of (Other n) = OfSentence n
kind_of (Message m) = message_kind m

-- The values of a frame, in the order of document 01: of a status report its fields and, last, its form; of a sentence with
-- a record its numbers; the others have none.
abbrev pub status_numbers : StatusType.Status → List ℕ
status_numbers s =
    s.id ∷ s.state ∷ s.direction ∷ s.bank ∷ s.input ∷ s.band ∷ s.transmit ∷ s.tuner ∷ s.receive ∷ s.level
    ∷ s.watts ∷ s.swratu ∷ s.swrant ∷ s.volts ∷ s.amperes ∷ s.upper ∷ s.lower ∷ s.combiner ∷ s.warning ∷ s.alarm
    ∷ s.comma ∷ []

-- so many are they
abbrev pub status_values : ℕ
status_values = 21

abbrev pub numbers05 : Sentence05 → List ℕ
numbers05 r =
    r.band ∷ r.segment ∷ r.memory ∷ r.antenna ∷ r.meter ∷ r.control ∷ r.options ∷ r.state ∷ r.wtime ∷ r.tcmd ∷ r.lcmd ∷ []

abbrev pub values : Frame → List ℤ
values (Ack c) = []
values (Status s) = map pos (status_numbers s)
values (Command c) = []
values (Apa02 r) = map pos (numbers02 r)
values (Apa03 r) = map pos (numbers03 r) ++ r.temp ∷ []
values (Apa05 r) = map pos (numbers05 r)
values (Other n) = []
values (Message m) = map pos (message_numbers m)

-- each case of the answer of a reader of one frame, and of a writer
abbrev pub said : Read → Says
said (Ok f) = yes (a_frame (kind_of f)) (values f)
said (Err e) = no (number_for e)

-- whether an answer is a good frame
abbrev pub is_good : Read → Bool
is_good (Ok f) = true
is_good (Err e) = false

abbrev pub said_to_write : Wrote → Says
said_to_write (Ok n) = yes length_written (pos n ∷ [])
said_to_write (Err e) = no (number_for e)

-- One good frame, as a whole, or refusal 8. Family 1 is an acknowledgement or a status report:
unfoldable pub read_family1 : List ℕ → Read
read_family1 bs =
    cond (is_ack bs) (Ok (Ack (get_or bs 4 0)))
    (cond (is_status bs) (Ok (Status (status_in bs)))
    (Err NotGood))

-- Family 2 is a sentence. One numbered 02, 03 or 05 that breaks its field rules is not good; one with another number is
-- handed out with its number and nothing else.
unfoldable pub read_texts : ℕ → List (List ℕ) → Read
read_texts n ts =
    cond (eqb n 2) (cond (is02 ts) (Ok (Apa02 (sentence02 ts))) (Err NotGood))
    (cond (eqb n 3) (cond (is03 ts) (Ok (Apa03 (sentence03 ts))) (Err NotGood))
    (cond (eqb n 5) (cond (is05 ts) (Ok (Apa05 (sentence05 ts))) (Err NotGood))
    (Ok (Other n))))

unfoldable pub read_family2 : List ℕ → Read
read_family2 bs = cond (is_sentence bs) (read_texts (number_of (payload_of bs)) (texts_of (payload_of bs))) (Err NotGood)

-- Family 3 is a command.
unfoldable pub read_family3 : List ℕ → Read
read_family3 bs = cond (is_command bs) (Ok (Command (get_or bs 4 0))) (Err NotGood)

-- Family 4 is a message. Listed letters with nothing behind them are a question, except FT, which is alone; with what may
-- stand behind them a response; with anything else the message is not good. Other letters are handed out, whatever stands
-- behind them.
abbrev pub or_question : ℕ → List ℕ → Read → Read
or_question letters [] response = Ok (Message (Question letters))
or_question letters (b ∷ bs) response = response

abbrev pub message_if : Bool → MessageType.Message → Read
message_if keeps m = cond keeps (Ok (Message m)) (Err NotGood)

abbrev pub read_number : ℕ → ℕ → ℕ → List ℕ → Read
read_number letters width limit t = or_question letters t (message_if (is_number width limit t) (Number letters (decimal t)))

abbrev pub read_version : ℕ → List ℕ → Read
read_version letters t = or_question letters t (message_if (are_pairs version_marks t) (Version (pair_at t 0) (pair_at t 1)))

abbrev pub read_clock : ℕ → List ℕ → Read
read_clock letters t = or_question letters t (message_if (are_pairs clock_marks t && clock_in_range (clock_of t)) (Clock (clock_of t)))

abbrev pub read_tune : List ℕ → Read
read_tune t = message_if (same t []) Tune

abbrev pub read_behind : ℕ → Letters → Behind → List ℕ → Read
read_behind n w (ANumber width limit) t = read_number n width limit t
read_behind n w AVersion t = read_version n t
read_behind n w AClock t = read_clock n t
read_behind n w Alone t = read_tune t
read_behind n w Anything t = Ok (Message (OtherLetters w))

unfoldable pub read_body : List ℕ → Read
read_body body =
    let letters = letters_in body in
    read_behind (word letters) (as_letters letters) (behind (word letters)) (behind_letters body)

unfoldable pub read_family4 : List ℕ → Read
read_family4 bs = cond (is_message bs) (read_body (body_of bs)) (Err NotGood)

-- A reader of one frame: refusal 1 where the family is not 1 to 4, else 8 where the bytes are not one good frame.
unfoldable pub read_one : ℕ → List ℕ → Read
read_one family bs =
    cond (eqb family replies) (read_family1 bs)
    (cond (eqb family sentences) (read_family2 bs)
    (cond (eqb family commands) (read_family3 bs)
    (cond (eqb family messages) (read_family4 bs)
    (Err NoFamily))))

abbrev pub is_family : ℕ → Bool
is_family family = one_of (replies ∷ sentences ∷ commands ∷ messages ∷ []) family

abbrev pub values_or8 : Read → Says
values_or8 (Ok f) = yes (a_frame (kind_of f)) (values f)
values_or8 (Err e) = no not_good

pub record Reads (family : ℕ) (bytes : List ℕ) (answer : Read) : Type 0 where
  pub answers : answer ≡ read_one family bytes
  pub says : said answer ≡ cond (not (is_family family)) (no no_family) (values_or8 (read_one family bytes))

-- A writer of a frame: refusal e where the code or the record is not allowed, then 4 where the lent output is shorter
-- than the frame; else the frame's length. The frame stands at the front of the output, the bytes behind it are
-- unchanged, and on a refusal all are.
abbrev pub written : Bool → Refusal → List ℕ → List ℕ → Wrote
written allowed e frame out = cond allowed (cond (leb (length frame) (length out)) (Ok (length frame)) (Err NoRoom)) (Err e)

abbrev pub output_after : Bool → List ℕ → List ℕ → List ℕ
output_after allowed frame out = cond (allowed && leb (length frame) (length out)) (frame ++ drop (length frame) out) out

pub record Writes (allowed : Bool) (e : Refusal) (frame out : List ℕ) (answer : Wrote) (after : List ℕ) : Type 0 where
  pub answers : answer ≡ written allowed e frame out
  pub says : said_to_write answer ≡ cond (not allowed) (no (number_for e)) (cond (not (leb (length frame) (length out))) (no no_room) (yes length_written (pos (length frame) ∷ [])))
  pub content : after ≡ output_after allowed frame out

-- the family that reads frames of a kind
abbrev pub family_of : Kind → ℕ
family_of (OfAck c) = replies
family_of OfStatus = replies
family_of (OfCommand c) = commands
family_of (OfSentence n) = sentences
family_of (OfQuestion letters) = messages
family_of (OfResponse letters) = messages
family_of (OfLetters w) = messages

-- What the writers know of a frame: whether its code or record is allowed, and its bytes. An "other" sentence and letters
-- that are not listed have no writer, so they are never allowed and have no bytes.
unfoldable pub allowed : Frame → Bool
allowed (Ack c) = is_ack_code c
allowed (Status s) = status_in_range s
allowed (Command c) = is_code c
allowed (Apa02 r) = in_range02 r
allowed (Apa03 r) = in_range03 r
allowed (Apa05 r) = in_range05 r
allowed (Other n) = false
allowed (Message m) = message_in_range m

unfoldable pub bytes_of : Frame → List ℕ
bytes_of (Ack c) = ack c
bytes_of (Status s) = status_bytes s
bytes_of (Command c) = command c
bytes_of (Apa02 r) = bytes02 r
bytes_of (Apa03 r) = bytes03 r
bytes_of (Apa05 r) = bytes05 r
bytes_of (Other n) = []
bytes_of (Message m) = message_bytes m

abbrev pub is_some : List ℕ → Bool
is_some [] = false
is_some (b ∷ bs) = true

abbrev pub has_writer : Frame → Bool
has_writer f = is_some (bytes_of f)

-- the refusal of a frame that is not allowed: 2 for a code, 3 for a record
abbrev pub not_allowed : Kind → Refusal
not_allowed (OfAck c) = NoCode
not_allowed OfStatus = NoRecord
not_allowed (OfCommand c) = NoCode
not_allowed (OfSentence n) = NoRecord
not_allowed (OfQuestion letters) = NoRecord
not_allowed (OfResponse letters) = NoRecord
not_allowed (OfLetters w) = NoRecord
