-- The status report of an SPE amplifier: its frame, its data, and the rules of its nineteen fields.
use Rattle.std.specs.Prelude.{ℕ, ◌+◌, ◌-◌, ◌/◌, ◌%◌, Bool, ◌&&◌, cond, List, [], ◌∷◌, ◌++◌, eqb, leb, take, get_or}
use Prim.Native.Char.{code}
use Rattle.rules.specs.Bytes.{ascii, one_of, between, every, same, first, part, total}
use Rattle.rules.specs.Numbers.{is_digit, decimal, padded, padded_number, pointed, pointed_number, with_zeros, with_spaces, with_point}
use Rattle.rules.specs.declared.Status.{Status}

-- A report has 75 bytes, of which 67 are its data; with the comma before its line end that document 02 adds ([3]), 76.
abbrev pub report_length : ℕ
report_length = 75

abbrev pub longest_report : ℕ
longest_report = report_length + 1

abbrev pub data_length : ℕ
data_length = 67

-- The two forms are told apart by the byte behind the checksum alone: 1 where a comma stands there, else 0. Before it are
-- the marks, the count, the data and two check bytes.
abbrev pub behind_checksum : ℕ
behind_checksum = 73

unfoldable pub comma_in : List ℕ → ℕ
comma_in bs = cond (eqb (get_or bs behind_checksum 0) (code ",")) 1 0

-- so many bytes has a report that starts with these
abbrev pub report_length_in : List ℕ → ℕ
report_length_in bs = report_length + comma_in bs

-- what stands behind the checksum: 0D 0A, or a comma and 0D 0A
abbrev pub line_end : ℕ → List ℕ
line_end comma = cond (eqb comma 1) (code "," ∷ 0x0D ∷ 0x0A ∷ []) (0x0D ∷ 0x0A ∷ [])

-- AA AA AA 43, the data, its sum modulo 256, its sum divided by 256, and the line end
unfoldable pub status_frame : ℕ → List ℕ → List ℕ
status_frame comma data₁ = 0xAA ∷ 0xAA ∷ 0xAA ∷ 0x43 ∷ data₁ ++ total data₁ % 256 ∷ total data₁ / 256 ∷ line_end comma

-- The data is a comma, then the fields with a comma between each two, then a comma.
unfoldable pub joined : List (List ℕ) → List ℕ
joined [] = code "," ∷ []
joined (text ∷ texts) = code "," ∷ text ++ joined texts

-- The nineteen widths: with their twenty commas 67 bytes. (The example printed in 003 has a field too few.)
abbrev pub widths : List ℕ
widths = 3 ∷ 1 ∷ 1 ∷ 1 ∷ 1 ∷ 2 ∷ 2 ∷ 2 ∷ 1 ∷ 4 ∷ 5 ∷ 5 ∷ 4 ∷ 4 ∷ 3 ∷ 3 ∷ 3 ∷ 1 ∷ 1 ∷ []

-- the texts of fields of these widths, each behind a comma, from place a on
abbrev pub cut : ℕ → List ℕ → List ℕ → List (List ℕ)
cut a [] bs = []
cut a (w ∷ ws) bs = part (a + 1) w bs ∷ cut (a + 1 + w) ws bs

-- the text of field k of the data, k from 1 to 19
abbrev pub field : ℕ → List ℕ → List ℕ
field k bs = get_or (cut 0 widths bs) (k - 1) []

-- What the texts have to look like, so that each can be read. Field 1 is two digits and K; field 5 a digit; field 6 two
-- digits; field 7 a digit and a letter; field 8 a digit and r. A field of one letter has no other form.
abbrev pub front_readable : List ℕ → Bool
front_readable d =
    every is_digit (take 2 (field 1 d)) && eqb (get_or (field 1 d) 2 0) (code "K")
    && is_digit (first (field 5 d))
    && every is_digit (field 6 d)
    && is_digit (first (field 7 d))
    && is_digit (first (field 8 d)) && eqb (get_or (field 8 d) 1 0) (code "r")

-- Fields 10 to 17: padded numbers, with a point in fields 11 to 14.
abbrev pub meters_readable : List ℕ → Bool
meters_readable d =
    padded (field 10 d)
    && pointed 2 (field 11 d) && pointed 2 (field 12 d) && pointed 2 (field 13 d) && pointed 2 (field 14 d)
    && padded (field 15 d) && padded (field 16 d) && padded (field 17 d)

unfoldable pub readable : List ℕ → Bool
readable d = front_readable d && meters_readable d

-- the values of the fields, in a report of that form
unfoldable pub status_of : ℕ → List ℕ → Status
status_of comma d = record {
  id = decimal (take 2 (field 1 d));
  state = first (field 2 d);
  direction = first (field 3 d);
  bank = first (field 4 d);
  input = first (field 5 d) - code "0";
  band = decimal (field 6 d);
  transmit = first (field 7 d) - code "0";
  tuner = get_or (field 7 d) 1 0;
  receive = first (field 8 d) - code "0";
  level = first (field 9 d);
  watts = padded_number (field 10 d);
  swratu = pointed_number 2 (field 11 d);
  swrant = pointed_number 2 (field 12 d);
  volts = pointed_number 2 (field 13 d);
  amperes = pointed_number 2 (field 14 d);
  upper = padded_number (field 15 d);
  lower = padded_number (field 16 d);
  combiner = padded_number (field 17 d);
  warning = first (field 18 d);
  alarm = first (field 19 d);
  comma = comma;
}

-- What depends on the ID: the bank is x exactly for 20K; the bands go to 10 or to 11; the antennas to 6 or to 4; the
-- second and third temperature are zero for 13K.
abbrev pub by : ℕ → {A : Type 0} → A → A → A
by id for20K for13K = cond (eqb id 20) for20K for13K

-- the letters of a warning and of an alarm, N for none
abbrev pub warnings : List ℕ
warnings = ascii "MASBPOYWKRTCN"

abbrev pub alarms : List ℕ
alarms = ascii "SADHCN"

-- The rules of the fields, in their order.
unfoldable pub fields_in_range : Status → Bool
fields_in_range s =
    one_of (20 ∷ 13 ∷ []) s.id
    && one_of (ascii "SO") s.state
    && one_of (ascii "RT") s.direction
    && one_of (by s.id (ascii "x") (ascii "AB")) s.bank
    && between 1 2 s.input
    && leb s.band (by s.id 10 11)
    && leb s.transmit (by s.id 6 4) && one_of (ascii "tba") s.tuner
    && leb s.receive (by s.id 6 4)
    && one_of (ascii "LMH") s.level
    && leb s.watts 9999
    && leb s.swratu 9999 && leb s.swrant 9999
    && leb s.volts 999 && leb s.amperes 999
    && leb s.upper 999 && leb s.lower (by s.id 999 0) && leb s.combiner (by s.id 999 0)
    && one_of warnings s.warning
    && one_of alarms s.alarm

-- All of them, and one of the two forms: a record that says neither is out of range.
unfoldable pub status_in_range : Status → Bool
status_in_range s = fields_in_range s && leb s.comma 1

-- the data of a report, and its record
abbrev pub data_of : List ℕ → List ℕ
data_of bs = part 4 data_length bs

abbrev pub status_in : List ℕ → Status
status_in bs = status_of (comma_in bs) (data_of bs)

-- The bytes are, as a whole, a good status report.
unfoldable pub is_status : List ℕ → Bool
is_status bs =
    same bs (status_frame (comma_in bs) (data_of bs))
    && same (data_of bs) (joined (cut 0 widths (data_of bs)))
    && readable (data_of bs)
    && status_in_range (status_in bs)

-- The writer pads field 10 with zeros, and fields 11 to 17 with spaces.
unfoldable pub status_texts : Status → List (List ℕ)
status_texts s =
    (with_zeros 2 s.id ++ ascii "K")
    ∷ (s.state ∷ [])
    ∷ (s.direction ∷ [])
    ∷ (s.bank ∷ [])
    ∷ with_zeros 1 s.input
    ∷ with_zeros 2 s.band
    ∷ (with_zeros 1 s.transmit ++ s.tuner ∷ [])
    ∷ (with_zeros 1 s.receive ++ ascii "r")
    ∷ (s.level ∷ [])
    ∷ with_zeros 4 s.watts
    ∷ with_point 2 2 s.swratu
    ∷ with_point 2 2 s.swrant
    ∷ with_point 2 1 s.volts
    ∷ with_point 2 1 s.amperes
    ∷ with_spaces 3 s.upper
    ∷ with_spaces 3 s.lower
    ∷ with_spaces 3 s.combiner
    ∷ (s.warning ∷ [])
    ∷ (s.alarm ∷ [])
    ∷ []

-- It puts the comma where the record has it.
abbrev pub status_bytes : Status → List ℕ
status_bytes s = status_frame s.comma (joined (status_texts s))
