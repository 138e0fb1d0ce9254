-- A frame as a caller gives it who has plain numbers only: a kind, a code, and a row of values. What frame that is, and
-- what a writer of it answers and leaves, as plain numbers too.
use Rattle.std.specs.Prelude.{ℕ, ◌≡◌, Bool, false, ◌&&◌, ◌||◌, cond, List, [], eqb, ltb, leb, ℤ, pos, negsuc, nat_abs, length, take, drop, get_or}
use Rattle.rules.specs.Answers.{Read, Wrote}
use Rattle.rules.specs.declared.Refusal.{Refusal}
use Rattle.rules.specs.declared.Refusal.TheVariants.{NoCode, NoRecord}
use Rattle.std.specs.Prelude.{Err, Ok, Result, Option, Some, None}
use Rattle.rules.specs.Bytes.{every}
use Rattle.rules.specs.Messages.{behind}
use Rattle.rules.specs.Answers.{Writes, said_to_write, written, output_after, kind_of, allowed, not_allowed, bytes_of, status_values}
use Rattle.rules.specs.declared.Status as StatusType
use Rattle.rules.specs.declared.Sentence02.{Sentence02}
use Rattle.rules.specs.declared.Sentence03.{Sentence03}
use Rattle.rules.specs.declared.Sentence05.{Sentence05}
use Rattle.rules.specs.declared.Clock as ClockType
use Rattle.rules.specs.declared.Behind.{Behind}
use Rattle.rules.specs.declared.Behind.TheVariants.{ANumber, AVersion, AClock, Alone, Anything}
use Rattle.rules.specs.declared.Message.{Message}
use Rattle.rules.specs.declared.Message.TheVariants.{Question, Number, Version, Clock, Tune}
use Rattle.rules.specs.declared.Frame.{Frame}
use Rattle.rules.specs.declared.Frame.TheVariants.{Ack, Status, Command, Apa02, Apa03, Apa05, Message as MessageOf}
use Rattle.rows.specs.Rows.{refusal_of}

-- a value from 0 to the limit
abbrev pub at_most : ℕ → ℤ → Bool
at_most limit (pos n) = leb n limit
at_most limit (negsuc n) = false

-- Which values a field can hold: a byte, 32 bits, and 32 bits with a sign, where `negsuc n` is one below -n.
abbrev pub byte_limit : ℕ
byte_limit = 255

abbrev pub word_limit : ℕ
word_limit = 0xFFFFFFFF

abbrev pub a_byte : ℤ → Bool
a_byte v = at_most byte_limit v

abbrev pub a_word : ℤ → Bool
a_word v = at_most word_limit v

abbrev pub a_temperature : ℤ → Bool
a_temperature (pos n) = leb n 0x7FFFFFFF
a_temperature (negsuc n) = leb n 0x7FFFFFFF

-- the number in such a field, and 0 for a value that it cannot hold
abbrev pub number_up_to : ℕ → ℤ → ℕ
number_up_to limit v = cond (at_most limit v) (nat_abs v) 0

abbrev pub byte_of : ℤ → ℕ
byte_of v = number_up_to byte_limit v

abbrev pub word_of : ℤ → ℕ
word_of v = number_up_to word_limit v

abbrev pub temperature_of : ℤ → ℤ
temperature_of v = cond (a_temperature v) v (pos 0)

-- the value at a place, and 0 where there is none
abbrev pub value_at : List ℤ → ℕ → ℤ
value_at vs i = get_or vs i (pos 0)

-- Whether a row is long enough and its values fit the fields of a record. What stands behind those is not looked at.
unfoldable pub is_status_row : List ℤ → Bool
is_status_row vs = leb status_values (length vs) && every a_byte (take 10 vs) && every a_word (take 8 (drop 10 vs)) && every a_byte (take 3 (drop 18 vs))

unfoldable pub is_row_of : ℕ → ℕ → List ℤ → Bool
is_row_of count limit vs = leb count (length vs) && every (at_most limit) (take count vs)

unfoldable pub is_row03 : List ℤ → Bool
is_row03 vs = leb 9 (length vs) && every a_word (take 8 vs) && a_temperature (value_at vs 8)

-- The records, with their fields in the order in which a reader gives their values.
unfoldable pub status_from : List ℤ → StatusType.Status
status_from vs = record {
  id = byte_of (value_at vs 0);
  state = byte_of (value_at vs 1);
  direction = byte_of (value_at vs 2);
  bank = byte_of (value_at vs 3);
  input = byte_of (value_at vs 4);
  band = byte_of (value_at vs 5);
  transmit = byte_of (value_at vs 6);
  tuner = byte_of (value_at vs 7);
  receive = byte_of (value_at vs 8);
  level = byte_of (value_at vs 9);
  watts = word_of (value_at vs 10);
  swratu = word_of (value_at vs 11);
  swrant = word_of (value_at vs 12);
  volts = word_of (value_at vs 13);
  amperes = word_of (value_at vs 14);
  upper = word_of (value_at vs 15);
  lower = word_of (value_at vs 16);
  combiner = word_of (value_at vs 17);
  warning = byte_of (value_at vs 18);
  alarm = byte_of (value_at vs 19);
  comma = byte_of (value_at vs 20);
}

unfoldable pub from02 : List ℤ → Sentence02
from02 vs = record {
  pfwd = word_of (value_at vs 0);
  swr = word_of (value_at vs 1);
  pin = word_of (value_at vs 2);
  vp = word_of (value_at vs 3);
  ip = word_of (value_at vs 4);
  gain = word_of (value_at vs 5);
  vg = word_of (value_at vs 6);
  ig = word_of (value_at vs 7);
  band = word_of (value_at vs 8);
  state = word_of (value_at vs 9);
  fault = word_of (value_at vs 10);
  key = word_of (value_at vs 11);
  pep = word_of (value_at vs 12);
}

unfoldable pub from03 : List ℤ → Sentence03
from03 vs = record {
  v5 = word_of (value_at vs 0);
  v12 = word_of (value_at vs 1);
  v24 = word_of (value_at vs 2);
  m12 = word_of (value_at vs 3);
  v40 = word_of (value_at vs 4);
  acline = word_of (value_at vs 5);
  mbstatus = word_of (value_at vs 6);
  mbtap = word_of (value_at vs 7);
  temp = temperature_of (value_at vs 8);
}

unfoldable pub from05 : List ℤ → Sentence05
from05 vs = record {
  band = byte_of (value_at vs 0);
  segment = byte_of (value_at vs 1);
  memory = byte_of (value_at vs 2);
  antenna = byte_of (value_at vs 3);
  meter = byte_of (value_at vs 4);
  control = byte_of (value_at vs 5);
  options = byte_of (value_at vs 6);
  state = byte_of (value_at vs 7);
  wtime = byte_of (value_at vs 8);
  tcmd = byte_of (value_at vs 9);
  lcmd = byte_of (value_at vs 10);
}

unfoldable pub clock_from : List ℤ → ClockType.Clock
clock_from vs = record {
  year = byte_of (value_at vs 0);
  month = byte_of (value_at vs 1);
  day = byte_of (value_at vs 2);
  hour = byte_of (value_at vs 3);
  minute = byte_of (value_at vs 4);
  second = byte_of (value_at vs 5);
}

-- What is given: a frame, or nothing, where no record can hold the values or there is no such kind.
unfoldable pub sentence_given : ℕ → List ℤ → Option Frame
sentence_given number vs =
    cond (eqb number 2) (cond (is_row_of 13 word_limit vs) (Some (Apa02 (from02 vs))) None)
    (cond (eqb number 3) (cond (is_row03 vs) (Some (Apa03 (from03 vs))) None)
    (cond (eqb number 5) (cond (is_row_of 11 byte_limit vs) (Some (Apa05 (from05 vs))) None)
    None))

abbrev pub given_if : Bool → Message → Option Frame
given_if fits m = cond fits (Some (MessageOf m)) None

abbrev pub behind_given : Behind → ℕ → List ℤ → Option Frame
behind_given (ANumber width limit) letters vs = given_if (is_row_of 1 word_limit vs) (Number letters (word_of (value_at vs 0)))
behind_given AVersion letters vs = given_if (is_row_of 2 byte_limit vs) (Version (byte_of (value_at vs 0)) (byte_of (value_at vs 1)))
behind_given AClock letters vs = given_if (is_row_of 6 byte_limit vs) (Clock (clock_from vs))
behind_given Alone letters vs = Some (MessageOf Tune)
behind_given Anything letters vs = None

unfoldable pub response_given : ℕ → List ℤ → Option Frame
response_given letters vs = behind_given (behind letters) letters vs

unfoldable pub frame_given : ℕ → ℕ → List ℤ → Option Frame
frame_given kind code vs =
    cond (eqb kind 1) (Some (Ack code))
    (cond (eqb kind 2) (cond (is_status_row vs) (Some (Status (status_from vs))) None)
    (cond (eqb kind 3) (Some (Command code))
    (cond (eqb kind 4) (sentence_given code vs)
    (cond (eqb kind 7) (Some (MessageOf (Question code)))
    (cond (eqb kind 8) (response_given code vs)
    None)))))

-- The code of a frame that holds one in a byte, and what is given with its refusal where it is nothing.
abbrev pub byte_code : ℕ → Result ℕ Refusal
byte_code code = cond (leb code byte_limit) (Ok code) (Err NoCode)

abbrev pub or_no_record : Option Frame → Read
or_no_record (Some f) = Ok f
or_no_record None = Err NoRecord

abbrev pub given_or_refused : ℕ → ℕ → List ℤ → Read
given_or_refused kind code vs =
    cond (ltb byte_limit code && (eqb kind 1 || eqb kind 3)) (Err NoCode) (or_no_record (frame_given kind code vs))

-- Whether what is given is allowed, its refusal where it is not, and its bytes. Nothing is refused as a record is that is
-- not allowed.
abbrev pub allowed_given : Option Frame → Bool
allowed_given (Some f) = allowed f
allowed_given None = false

abbrev pub refusal_given : Option Frame → Refusal
refusal_given (Some f) = not_allowed (kind_of f)
refusal_given None = NoRecord

abbrev pub bytes_given : Option Frame → List ℕ
bytes_given (Some f) = bytes_of f
bytes_given None = []

-- What is given is written.
abbrev pub WritesFrame : Option Frame → List ℕ → Wrote → List ℕ → Type 0
WritesFrame g = Writes (allowed_given g) (refusal_given g) (bytes_given g)

-- The same as plain numbers. The length that is told goes where the caller lent a place for it; on a refusal that place keeps
-- what it held.
abbrev pub told_or : ℕ → Wrote → ℕ
told_or before (Ok n) = n
told_or before (Err e) = before

pub record WritesNumbers (may : Bool) (e : Refusal) (frame out : List ℕ) (before answer : ℕ) (out_after : List ℕ) (after : ℕ) : Type 0 where
  pub answers : answer ≡ refusal_of (said_to_write (written may e frame out))
  pub content : out_after ≡ output_after may frame out
  pub told : after ≡ told_or before (written may e frame out)

abbrev pub WritesGiven : ℕ → ℕ → List ℤ → List ℕ → ℕ → ℕ → List ℕ → ℕ → Type 0
WritesGiven kind code vs =
    let g = frame_given kind code vs in
    WritesNumbers (allowed_given g) (refusal_given g) (bytes_given g)
