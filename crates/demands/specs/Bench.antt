-- The cases of the bench sheet that are proved, 1 to 10, and 11 besides, gathered under one statement over the definitions;
-- with cases 4 and 5 those of the comma before the line end; and some messages.
use Rattle.std.specs.Prelude.{ℕ, ◌≡◌, List, [], ◌∷◌, ◌++◌, map, take, drop, replicate}
use Rattle.rules.specs.declared.Refusal.{Refusal}
use Rattle.stream_rules.specs.declared.Progress.{Progress}
use Rattle.stream_rules.specs.declared.Progress.TheVariants.{Done, More, Ready}
use Rattle.rules.specs.declared.Refusal.TheVariants.{NotGood}
use Rattle.std.specs.Prelude.{Err, Ok, Result}
use Prim.Native.Char.{code}
use Rattle.rules.specs.Bytes.{ascii, total}
use Rattle.rules.specs.Codes.{codes, ack}
use Rattle.rules.specs.Messages.{word, as_letters}
use Rattle.rules.specs.Answers.{read_one}
use Rattle.rules.specs.declared.Status as StatusType
use Rattle.rules.specs.declared.Sentence05.{Sentence05}
use Rattle.rules.specs.declared.Message as MessageType
use Rattle.rules.specs.declared.Message.TheVariants.{Question, Number, Clock, Tune, OtherLetters}
use Rattle.rules.specs.declared.Frame.TheVariants.{Ack, Status, Command, Apa05, Message}
use Rattle.stream_rules.specs.Rule.{Found}
use Rattle.stream_rules.specs.Streams.{fed, shut, fresh}
use Rattle.stream_rules.specs.Lister.{frames}
use Rattle.stream_rules.specs.declared.Fed.{Fed}

-- the bytes of the cases
abbrev pub ack0_d : List ℕ
ack0_d = 0xAA ∷ 0xAA ∷ 0xAA ∷ 0x01 ∷ 0x0D ∷ 0x0D ∷ []

abbrev pub ack09 : List ℕ
ack09 = 0xAA ∷ 0xAA ∷ 0xAA ∷ 0x01 ∷ 0x09 ∷ 0x09 ∷ []

abbrev pub bytes1 : List ℕ
bytes1 = 0xAA ∷ ack0_d

abbrev pub bytes2 : List ℕ
bytes2 = ack0_d ++ ack09

-- every code but the last, 90, which is never acknowledged
abbrev pub acknowledged_codes : List ℕ
acknowledged_codes = take 19 codes

abbrev pub bytes3 : ℕ → List ℕ
bytes3 code = 0xAA ∷ 0xAA ∷ 0xAA ∷ 0x01 ∷ 0x0D ∷ 0x0E ∷ ack code

abbrev pub bytes4 : List ℕ
bytes4 = 0xAA ∷ 0xAA ∷ 0xAA ∷ 0x43 ∷ bytes2

abbrev pub data5 : List ℕ
data5 = ascii ",20K,S,R,x,2,03,2t,0r,M,0000, 0.00, 0.00, 0.0, 0.0, 31, 29, 30,N,N,"

abbrev pub report5 : ℕ → ℕ → List ℕ
report5 a b = 0xAA ∷ 0xAA ∷ 0xAA ∷ 0x43 ∷ data5 ++ a ∷ b ∷ 0x0D ∷ 0x0A ∷ []

-- what it says, with a comma before its line end or without
abbrev pub record5 : ℕ → StatusType.Status
record5 comma = record {
  id = 20;
  state = 83;
  direction = 82;
  bank = 120;
  input = 2;
  band = 3;
  transmit = 2;
  tuner = 116;
  receive = 0;
  level = 77;
  watts = 0;
  swratu = 0;
  swrant = 0;
  volts = 0;
  amperes = 0;
  upper = 31;
  lower = 29;
  combiner = 30;
  warning = 78;
  alarm = 78;
  comma = comma;
}

-- the same report with the comma, and what of it is there before its last byte
abbrev pub report_comma : List ℕ
report_comma = 0xAA ∷ 0xAA ∷ 0xAA ∷ 0x43 ∷ data5 ++ 0x6A ∷ 0x0D ∷ 0x2C ∷ 0x0D ∷ 0x0A ∷ []

abbrev pub cut_comma : List ℕ
cut_comma = take 75 report_comma

abbrev pub sentence7 : List ℕ
sentence7 = ascii "$APA05,11,18,1B,34,00,2A,01*A844"

-- what it says
abbrev pub record7 : Sentence05
record7 = record {
  band = 1;
  segment = 1;
  memory = 1;
  antenna = 8;
  meter = 1;
  control = 11;
  options = 3;
  state = 4;
  wtime = 0;
  tcmd = 42;
  lcmd = 1;
}

abbrev pub sentence8 : List ℕ
sentence8 = ascii "$APA05,11,18,1B,34,00,2A,01*a844"

-- case 4's reader: fresh, and after the 16 bytes; then with 59 zero bytes and one more offered, or closed
abbrev pub first4 : Fed
first4 = fed (fresh 1).reader bytes4

abbrev pub on4 : Fed
on4 = fed first4.reader (replicate 60 0)

abbrev pub on4_again : Fed
on4_again = fed on4.reader (replicate 1 0)

abbrev pub closed4 : Fed
closed4 = fed (shut first4.reader).reader []

abbrev pub closed4_again : Fed
closed4_again = fed closed4.reader []

-- A reader that was given a report with the comma but for its last byte, and then an acknowledgement but for its last byte,
-- or closed; and the same with that byte.
abbrev pub first_cut : Fed
first_cut = fed (fresh 1).reader cut_comma

abbrev pub begun_cut : Fed
begun_cut = fed first_cut.reader (take 5 ack0_d)

abbrev pub on_cut : Fed
on_cut = fed begun_cut.reader (drop 5 ack0_d)

abbrev pub closed_cut : Fed
closed_cut = fed (shut first_cut.reader).reader []

abbrev pub closed_begun : Fed
closed_begun = fed (shut begun_cut.reader).reader []

-- Case 4 with a comma for the byte behind the checksum, the 74th: a reader after 75 bytes, and one more
abbrev pub comma4 : Fed
comma4 = fed (fresh 1).reader (bytes4 ++ replicate 57 0 ++ 0x2C ∷ 0 ∷ [])

abbrev pub on_comma4 : Fed
on_comma4 = fed comma4.reader (replicate 2 0)

abbrev pub acknowledged : ℕ → ℕ → ℕ → ℕ → (Result Progress Refusal)
acknowledged taken start skipped code = Ok (Ready (record { taken = taken; start = start; skipped = skipped; length = 6; frame = Ack code }))

abbrev pub found_ack : ℕ → ℕ → ℕ → Found
found_ack start skipped code = record { start = start; skipped = skipped; length = 6; frame = Ack code }

abbrev pub found_report : ℕ → ℕ → ℕ → Found
found_report start length comma = record { start = start; skipped = 0; length = length; frame = Status (record5 comma) }

abbrev pub emptied : ℕ → Fed
emptied family = fed (shut (fresh family).reader).reader []

-- Messages, by [1] of document 02: a caret before one that has small letters, a question, letters that are not listed, and the
-- end of a tune; and a message found, by its start, the bytes skipped, its length and what it says
abbrev pub some_messages : List ℕ
some_messages = ascii "^^pwf0750;^PWF;^bt ok;^FT;"

abbrev pub found_message : ℕ → ℕ → ℕ → MessageType.Message → Found
found_message start skipped length m = record { start = start; skipped = skipped; length = length; frame = Message m }

-- a caret and so many digits, offered to a fresh reader; and one digit more
abbrev pub digits_behind : ℕ → Fed
digits_behind n = fed (fresh 4).reader (code "^" ∷ replicate n (code "0"))

abbrev pub one_digit_more : Fed
one_digit_more = fed (digits_behind 38).reader (code "0" ∷ [])

pub record BenchSheet : Type 0 where
  -- 1. One frame at 1.
  pub case1 : frames 1 bytes1 ≡ found_ack 1 1 0x0D ∷ []
  -- 2. Starts 0 and 6, skipped 0 and 0.
  pub case2 : frames 1 bytes2 ≡ found_ack 0 0 0x0D ∷ found_ack 6 0 0x09 ∷ []
  -- 3. Start 6, skipped 6, whatever is acknowledged.
  pub case3 : map (λ code. frames 1 (bytes3 code)) acknowledged_codes ≡ map (λ code. found_ack 6 6 code ∷ []) acknowledged_codes
  -- 4. Nothing is handed out on the 16 bytes.
  pub case4 : first4.answer ≡ Ok (More 16)
  -- At close, starts 4 and 10.
  pub case4_closed : closed4.answer ≡ acknowledged 0 4 4 0x0D
  pub case4_closed_again : closed4_again.answer ≡ acknowledged 0 10 0 0x09
  pub case4_done : (fed closed4_again.reader []).answer ≡ Ok (Done 0)
  -- With 59 zero bytes more, which make 75, the first comes; and the second before another byte is taken.
  pub case4_on : on4.answer ≡ acknowledged 59 4 4 0x0D
  pub case4_on_again : on4_again.answer ≡ acknowledged 0 10 0 0x09
  -- With the comma of document 02, [3], in the 74th place they come once byte 76 is taken, and before another is.
  pub case4_comma : comma4.answer ≡ Ok (More 75)
  pub case4_comma_on : on_comma4.answer ≡ acknowledged 1 4 4 0x0D
  pub case4_comma_on_again : (fed on_comma4.reader (replicate 1 0)).answer ≡ acknowledged 0 10 0 0x09
  -- A report with the comma, cut before its last byte: nothing is handed out on its 75 bytes, nor at close.
  pub cut : first_cut.answer ≡ Ok (More 75)
  pub cut_closed : closed_cut.answer ≡ Ok (Done 0)
  -- Behind it an acknowledgement has begun: the report is no more, and more is wanted; at close there is nothing. With
  -- the last byte the acknowledgement comes, with the 75 bytes skipped before it.
  pub cut_begun : begun_cut.answer ≡ Ok (More 5)
  pub cut_begun_closed : closed_begun.answer ≡ Ok (Done 0)
  pub cut_on : on_cut.answer ≡ acknowledged 1 75 75 0x0D
  pub cut_listed : frames 1 (cut_comma ++ ack0_d) ≡ found_ack 75 75 0x0D ∷ []
  -- 5. The data sums to 3,434, and with check bytes 6A 0D the report is good.
  pub case5_total : total data5 ≡ 3434
  pub case5 : read_one 1 (report5 0x6A 0x0D) ≡ Ok (Status (record5 0))
  -- With a comma before the line end, 76 bytes, it is good too; and a comma behind the 75 bytes of the other is none of it.
  pub case5_comma : read_one 1 report_comma ≡ Ok (Status (record5 1))
  pub case5_comma_found : frames 1 (report_comma ++ report5 0x6A 0x0D ++ 0x2C ∷ [])
      ≡ found_report 0 76 1 ∷ found_report 76 75 0 ∷ []
  -- 6. The same with 0D 6A is not good.
  pub case6 : read_one 1 (report5 0x0D 0x6A) ≡ Err NotGood
  -- 7. Nibbles 1 1, 1 8, 1 11, 3 4; then 0, 42, 1.
  pub case7 : read_one 2 sentence7 ≡ Ok (Apa05 record7)
  -- 8. The same with a lowercase digit is not good.
  pub case8 : read_one 2 sentence8 ≡ Err NotGood
  -- 9. Start 5, skipped 5.
  pub case9 : frames 2 (ascii "$APA0" ++ sentence7)
      ≡ record {
        start = 5;
        skipped = 5;
        length = 32;
        frame = Apa05 record7;
      } ∷ []
  -- 10. Code 90 is not acknowledged, and is a command.
  pub case10 : read_one 1 (0xAA ∷ 0xAA ∷ 0xAA ∷ 0x01 ∷ 0x90 ∷ 0x90 ∷ []) ≡ Err NotGood
  pub case10_command : read_one 3 (0x55 ∷ 0x55 ∷ 0x55 ∷ 0x01 ∷ 0x90 ∷ 0x90 ∷ []) ≡ Ok (Command 0x90)
  -- 11. An empty stream, closed: done at once, and nothing listed.
  pub case11 : ((emptied 1).answer ≡ Ok (Done 0)) × ((emptied 2).answer ≡ Ok (Done 0)) × ((emptied 3).answer ≡ Ok (Done 0)) × ((emptied 4).answer ≡ Ok (Done 0))
  pub case11_listed : (family : ℕ) → frames family [] ≡ []
  -- [1] of document 02: the messages are found by their starts, each with what it says.
  pub messages_found : frames 4 some_messages
      ≡ found_message 1 1 9 (Number (word (ascii "PWF")) 750)
      ∷ found_message 10 0 5 (Question (word (ascii "PWF")))
      ∷ found_message 15 0 7 (OtherLetters (as_letters (ascii "BT")))
      ∷ found_message 22 0 4 Tune
      ∷ []
  -- Listed letters with anything else behind them are not good; RVM is not RV.
  pub messages_bad : map (read_one 4) (ascii "^HS01;" ∷ ascii "^FT1;" ∷ ascii "^SN0022;" ∷ ascii "^RV1.23;" ∷ ascii "^FS6;" ∷ ascii "^;" ∷ [])
      ≡ replicate 6 (Err NotGood)
  pub message_other : read_one 4 (ascii "^RVM01.23;") ≡ Ok (Message (OtherLetters (as_letters (ascii "RVM"))))
  -- 2000 was a leap year, and 2001 was none.
  pub leap_year : read_one 4 (ascii "^CC00-02-29T23:59:59;")
      ≡ Ok (Message (Clock (record { year = 0; month = 2; day = 29; hour = 23; minute = 59; second = 59 })))
  pub common_year : read_one 4 (ascii "^CC01-02-29T23:59:59;") ≡ Err NotGood
  -- A first byte that is no letter waits like any other: 39 bytes are held, and the 39th behind the caret decides.
  pub no_letter_waits : ((digits_behind 38).answer ≡ Ok (More 39)) × ((digits_behind 38).reader.count ≡ 39)
  pub one_too_many : (one_digit_more.answer ≡ Ok (More 1)) × (one_digit_more.reader.count ≡ 0)
