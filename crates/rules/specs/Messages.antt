-- The messages of the KPA1500, by [1] of document 02: frame, letters, and what stands behind the listed ones.
use Rattle.std.specs.Prelude.{ℕ, ◌+◌, ◌-◌, ◌*◌, ◌/◌, ◌%◌, ◌^◌, Bool, true, false, ◌&&◌, ◌||◌, cond, eqb, leb, length, take, drop, get_or}
use Prim.Native.Char.{code}
use mathlib.Core.List.{List, [], ◌∷◌, ◌++◌, map, flat_map}
use Rattle.rules.specs.Bytes.{ascii, one_of, between, every, same, first, part, text_byte}
use Rattle.rules.specs.Numbers.{is_digit, decimal, with_zeros}
use Rattle.rules.specs.declared.Clock as ClockType
use Rattle.rules.specs.declared.Letters.{Letters}
use Rattle.rules.specs.declared.Behind.{Behind}
use Rattle.rules.specs.declared.Behind.TheVariants.{ANumber, AVersion, AClock, Alone, Anything}
use Rattle.rules.specs.declared.Message.{Message}
use Rattle.rules.specs.declared.Message.TheVariants.{Question, Number, Version, Clock, Tune, OtherLetters}

-- A message is a caret, a body of 1 to 38 bytes and a semicolon, so it has 3 to 40 bytes.
abbrev pub longest_body : ℕ
longest_body = 38

abbrev pub shortest_message : ℕ
shortest_message = 3

abbrev pub longest_message : ℕ
longest_message = longest_body + 2

-- A body has bytes from 20 to 7E that are neither caret nor semicolon.
unfoldable pub is_body_byte : ℕ → Bool
is_body_byte b = text_byte (code "^") (code ";") b

-- A letter in either case, and the capital that it is read as.
abbrev pub is_small : ℕ → Bool
is_small b = between (code "a") (code "z") b

abbrev pub is_capital : ℕ → Bool
is_capital b = between (code "A") (code "Z") b

unfoldable pub is_letter : ℕ → Bool
is_letter b = is_capital b || is_small b

unfoldable pub capital : ℕ → ℕ
capital b = cond (is_small b) (b - 32) b

-- The letters of a body are the whole first run of them, so RVM is not RV; and what stands behind them.
unfoldable pub letter_run : List ℕ → List ℕ
letter_run [] = []
letter_run (b ∷ bs) = cond (is_letter b) (b ∷ letter_run bs) []

abbrev pub letters_in : List ℕ → List ℕ
letters_in body = map capital (letter_run body)

abbrev pub behind_letters : List ℕ → List ℕ
behind_letters body = drop (length (letter_run body)) body

-- The frame: as a whole a caret, a body whose first byte is a letter, and a semicolon.
abbrev pub body_of : List ℕ → List ℕ
body_of bs = part 1 (length bs - 2) bs

abbrev pub message_frame : List ℕ → List ℕ
message_frame body = code "^" ∷ body ++ code ";" ∷ []

unfoldable pub is_body : List ℕ → Bool
is_body body = between 1 longest_body (length body) && every is_body_byte body && is_letter (first body)

unfoldable pub is_message : List ℕ → Bool
is_message bs = same bs (message_frame (body_of bs)) && is_body (body_of bs)

-- Letters as one number: their bytes as digits to the base 256, the first the highest.
unfoldable pub word_from : ℕ → List ℕ → ℕ
word_from n [] = n
word_from n (b ∷ bs) = word_from (n * 256 + b) bs

abbrev pub word : List ℕ → ℕ
word letters = word_from 0 letters

-- The letters that a number of 32 bits stands for: its four bytes, without zeros in front.
unfoldable pub without_zeros : List ℕ → List ℕ
without_zeros [] = []
without_zeros (b ∷ bs) = cond (eqb b 0) (without_zeros bs) (b ∷ bs)

unfoldable pub word_letters : ℕ → List ℕ
word_letters n = without_zeros (n / 2 ^ 24 % 256 ∷ n / 2 ^ 16 % 256 ∷ n / 2 ^ 8 % 256 ∷ n % 256 ∷ [])

-- The letters that ten numbers stand for, and the ten that stand for up to 40 letters, four in each.
abbrev pub letter_words : Letters → List ℕ
letter_words w =
    w.first ∷ w.second ∷ w.third ∷ w.fourth ∷ w.fifth ∷ w.sixth ∷ w.seventh ∷ w.eighth ∷ w.ninth ∷ w.tenth ∷ []

unfoldable pub letters_of : Letters → List ℕ
letters_of w = flat_map word_letters (letter_words w)

abbrev pub word_at : List ℕ → ℕ → ℕ
word_at letters k = word (part (4 * k) 4 letters)

unfoldable pub as_letters : List ℕ → Letters
as_letters letters = record {
  first = word_at letters 0;
  second = word_at letters 1;
  third = word_at letters 2;
  fourth = word_at letters 3;
  fifth = word_at letters 4;
  sixth = word_at letters 5;
  seventh = word_at letters 6;
  eighth = word_at letters 7;
  ninth = word_at letters 8;
  tenth = word_at letters 9;
}

-- What may stand behind the letters as a response: SN, FR and FQ have five digits, the powers four, FS 0 to 5, HS 0 or 1;
-- RV a version; CC a date and a time; FT is alone. Other letters may have anything.
abbrev pub powers : List ℕ
powers = word (ascii "PWF") ∷ word (ascii "PWI") ∷ word (ascii "PWR") ∷ word (ascii "PWD") ∷ []

abbrev pub five_digits : List ℕ
five_digits = word (ascii "SN") ∷ word (ascii "FR") ∷ word (ascii "FQ") ∷ []

unfoldable pub behind : ℕ → Behind
behind n =
    cond (one_of powers n) (ANumber 4 9999)
    (cond (one_of five_digits n) (ANumber 5 99999)
    (cond (eqb n (word (ascii "FS"))) (ANumber 1 5)
    (cond (eqb n (word (ascii "HS"))) (ANumber 1 1)
    (cond (eqb n (word (ascii "RV"))) AVersion
    (cond (eqb n (word (ascii "CC"))) AClock
    (cond (eqb n (word (ascii "FT"))) Alone
    Anything))))))

-- A number has all its digits, and is at most its limit.
unfoldable pub is_number : ℕ → ℕ → List ℕ → Bool
is_number width limit t = eqb (length t) width && every is_digit t && leb (decimal t) limit

-- A version is two pairs of digits with a point between them; a date and a time are six, with `--T::` between them.
unfoldable pub are_pairs : List ℕ → List ℕ → Bool
are_pairs [] t = eqb (length t) 2 && every is_digit t
are_pairs (c ∷ cs) t = every is_digit (take 2 t) && eqb (get_or t 2 0) c && are_pairs cs (drop 3 t)

abbrev pub pair_at : List ℕ → ℕ → ℕ
pair_at t k = decimal (part (3 * k) 2 t)

abbrev pub version_marks : List ℕ
version_marks = ascii "."

abbrev pub clock_marks : List ℕ
clock_marks = ascii "--T::"

unfoldable pub clock_of : List ℕ → ClockType.Clock
clock_of t = record {
  year = pair_at t 0;
  month = pair_at t 1;
  day = pair_at t 2;
  hour = pair_at t 3;
  minute = pair_at t 4;
  second = pair_at t 5;
}

-- A real date of 2000 to 2099, where every fourth year is a leap year, and a time from 00:00:00 to 23:59:59.
unfoldable pub days_in : ℕ → ℕ → ℕ
days_in year month = cond (eqb month 2) (cond (eqb (year % 4) 0) 29 28) (cond (one_of (4 ∷ 6 ∷ 9 ∷ 11 ∷ []) month) 30 31)

unfoldable pub clock_in_range : ClockType.Clock → Bool
clock_in_range c =
    leb c.year 99 && between 1 12 c.month && between 1 (days_in c.year c.month) c.day
    && leb c.hour 23 && leb c.minute 59 && leb c.second 59

-- A record in range: listed letters, and a number up to their limit; a version of two digits and two; a real date and time.
abbrev pub is_asked : Behind → Bool
is_asked (ANumber width limit) = true
is_asked AVersion = true
is_asked AClock = true
is_asked Alone = false
is_asked Anything = false

abbrev pub is_up_to : Behind → ℕ → Bool
is_up_to (ANumber width limit) n = leb n limit
is_up_to AVersion n = false
is_up_to AClock n = false
is_up_to Alone n = false
is_up_to Anything n = false

unfoldable pub message_in_range : Message → Bool
message_in_range (Question letters) = is_asked (behind letters)
message_in_range (Number letters n) = is_up_to (behind letters) n
message_in_range (Version a b) = leb a 99 && leb b 99
message_in_range (Clock c) = clock_in_range c
message_in_range Tune = true
message_in_range (OtherLetters w) = false

-- The writer uses capitals and all digits. Other letters have no writer.
abbrev pub width_of : Behind → ℕ
width_of (ANumber width limit) = width
width_of AVersion = 0
width_of AClock = 0
width_of Alone = 0
width_of Anything = 0

unfoldable pub pairs_text : List ℕ → List ℕ → List ℕ
pairs_text cs [] = []
pairs_text [] (n ∷ ns) = with_zeros 2 n
pairs_text (c ∷ cs) (n ∷ ns) = with_zeros 2 n ++ c ∷ pairs_text cs ns

abbrev pub clock_numbers : ClockType.Clock → List ℕ
clock_numbers c = c.year ∷ c.month ∷ c.day ∷ c.hour ∷ c.minute ∷ c.second ∷ []

abbrev pub body_text : Message → List ℕ
body_text (Question letters) = word_letters letters
body_text (Number letters n) = word_letters letters ++ with_zeros (width_of (behind letters)) n
body_text (Version a b) = ascii "RV" ++ pairs_text version_marks (a ∷ b ∷ [])
body_text (Clock c) = ascii "CC" ++ pairs_text clock_marks (clock_numbers c)
body_text Tune = ascii "FT"
body_text (OtherLetters w) = []

unfoldable pub message_bytes : Message → List ℕ
message_bytes (Question letters) = message_frame (body_text (Question letters))
message_bytes (Number letters n) = message_frame (body_text (Number letters n))
message_bytes (Version a b) = message_frame (body_text (Version a b))
message_bytes (Clock c) = message_frame (body_text (Clock c))
message_bytes Tune = message_frame (body_text Tune)
message_bytes (OtherLetters w) = []

-- The values of a message, in document 02's order: what a response tells; and of letters that are not listed the numbers
-- that hold them.
abbrev pub message_numbers : Message → List ℕ
message_numbers (Question letters) = []
message_numbers (Number letters n) = n ∷ []
message_numbers (Version a b) = a ∷ b ∷ []
message_numbers (Clock c) = clock_numbers c
message_numbers Tune = []
message_numbers (OtherLetters w) = letter_words w
