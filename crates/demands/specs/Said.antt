-- What the answers of some cases say, in the numbers and values of document 01: of the bench sheet, and of sentences that
-- source documents 001 and 002 print. So the order of an answer's values, and what each kind is called, is told by known bytes.
use Rattle.std.specs.Prelude.{ℕ, ◌≡◌, List, [], ◌∷◌, map, ℤ, pos, replicate}
use Rattle.rules.specs.Bytes.{ascii}
use Rattle.rules.specs.Messages.{word, as_letters}
use Rattle.rules.specs.Answers.{read_one, said, no, yes, a_frame, more_wanted, now_done}
use Rattle.rules.specs.declared.Kind.TheVariants.{OfAck, OfStatus, OfCommand, OfSentence, OfQuestion, OfResponse, OfLetters}
use Rattle.stream_rules.specs.Streams.{fed, said_to_feed}
use Rattle.demands.specs.Bench.{report5, report_comma, sentence7, first4, on4, on4_again, closed4_again}

abbrev numbers : List ℕ → List ℤ
numbers ns = map pos ns

pub record SaidSheet : Type 0 where
  -- Case 4: more is wanted, 16 bytes taken. Then a frame: 59 taken, start 4, skipped 4, 6 bytes long; and one with none
  -- taken, start 10, skipped 0. And done in the end.
  pub case4 : said_to_feed first4.answer ≡ yes more_wanted (numbers (16 ∷ []))
  pub case4_on : said_to_feed on4.answer ≡ yes (a_frame (OfAck 0x0D)) (numbers (59 ∷ 4 ∷ 4 ∷ 6 ∷ []))
  pub case4_on_again : said_to_feed on4_again.answer ≡ yes (a_frame (OfAck 0x09)) (numbers (0 ∷ 10 ∷ 0 ∷ 6 ∷ []))
  pub case4_done : said_to_feed (fed closed4_again.reader []).answer ≡ yes now_done (numbers (0 ∷ []))
  -- Case 5: ID 20, S, R, x, input 2, band 3, antenna 2 t, antenna 0, M, no power, and 31, 29 and 30 degrees, N, N, and no
  -- comma before the line end; or one.
  pub case5 : said (read_one 1 (report5 0x6A 0x0D))
      ≡ yes (a_frame OfStatus) (numbers (20 ∷ 83 ∷ 82 ∷ 120 ∷ 2 ∷ 3 ∷ 2 ∷ 116 ∷ 0 ∷ 77 ∷ 0 ∷ 0 ∷ 0 ∷ 0 ∷ 0 ∷ 31 ∷ 29 ∷ 30 ∷ 78 ∷ 78 ∷ 0 ∷ []))
  pub case5_comma : said (read_one 1 report_comma)
      ≡ yes (a_frame OfStatus) (numbers (20 ∷ 83 ∷ 82 ∷ 120 ∷ 2 ∷ 3 ∷ 2 ∷ 116 ∷ 0 ∷ 77 ∷ 0 ∷ 0 ∷ 0 ∷ 0 ∷ 0 ∷ 31 ∷ 29 ∷ 30 ∷ 78 ∷ 78 ∷ 1 ∷ []))
  pub case6 : said (read_one 1 (report5 0x0D 0x6A)) ≡ no 8
  pub case7 : said (read_one 2 sentence7) ≡ yes (a_frame (OfSentence 5)) (numbers (1 ∷ 1 ∷ 1 ∷ 8 ∷ 1 ∷ 11 ∷ 3 ∷ 4 ∷ 0 ∷ 42 ∷ 1 ∷ []))
  pub case10 : said (read_one 3 (0x55 ∷ 0x55 ∷ 0x55 ∷ 0x01 ∷ 0x90 ∷ 0x90 ∷ [])) ≡ yes (a_frame (OfCommand 0x90)) []
  pub no-family : said (read_one 5 []) ≡ no 1
  -- 001's sentences 02, 03 and 11.
  pub printed_02 : said (read_one 2 (ascii "$APA02,15017,010,2590,3169,0768,230,096,057,1,6,01,0,15721*D83F"))
      ≡ yes (a_frame (OfSentence 2)) (numbers (15017 ∷ 10 ∷ 2590 ∷ 3169 ∷ 768 ∷ 230 ∷ 96 ∷ 57 ∷ 1 ∷ 6 ∷ 1 ∷ 0 ∷ 15721 ∷ []))
  pub printed_03 : said (read_one 2 (ascii "$APA03,499,121,240,121,389,2370,000,5,+028.0*9D7D"))
      ≡ yes (a_frame (OfSentence 3)) (numbers (499 ∷ 121 ∷ 240 ∷ 121 ∷ 389 ∷ 2370 ∷ 0 ∷ 5 ∷ 280 ∷ []))
  -- 002's serial number, version and date, a question, the end of a tune, and letters that are not listed.
  pub printed_SN : said (read_one 4 (ascii "^SN00022;")) ≡ yes (a_frame (OfResponse (word (ascii "SN")))) (numbers (22 ∷ []))
  pub printed_RV : said (read_one 4 (ascii "^RV01.23;")) ≡ yes (a_frame (OfResponse (word (ascii "RV")))) (numbers (1 ∷ 23 ∷ []))
  pub printed_CC : said (read_one 4 (ascii "^CC17-07-31T13:15:00;"))
      ≡ yes (a_frame (OfResponse (word (ascii "CC")))) (numbers (17 ∷ 7 ∷ 31 ∷ 13 ∷ 15 ∷ 0 ∷ []))
  pub printed_r_v : said (read_one 4 (ascii "^rV;")) ≡ yes (a_frame (OfQuestion (word (ascii "RV")))) []
  pub printed_FT : said (read_one 4 (ascii "^FT;")) ≡ yes (a_frame (OfResponse (word (ascii "FT")))) []
  pub printed_KPA : said (read_one 4 (ascii "^kpa1500;"))
      ≡ yes (a_frame (OfLetters (as_letters (ascii "KPA")))) (numbers (word (ascii "KPA") ∷ replicate 9 0))
  pub printed_11 : said (read_one 2 (ascii "$APA11,02,0000,00EA,0068,0068*72B4")) ≡ yes (a_frame (OfSentence 11)) []
