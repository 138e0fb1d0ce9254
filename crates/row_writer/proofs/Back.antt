-- A frame that may be written is given by its own kind, code and values, whatever stands behind them: a row that was read and
-- is passed on whole is written as its record is. Each value fits its field by the rules of the record. Assumes nothing.
use Prim.Native.Nat.{ℕ, zero, suc, ◌^◌, ◌≤◌}
use mathlib.Core.Path.{◌≡◌, refl, ap, ap₂, subst}
use mathlib.Core.Bool.{Bool, true, false, cond, and-eq-true_iff, false≢true}
use mathlib.Core.List.{List, [], ◌∷◌, ◌++◌, map}
use native.Mathlib.Nat.{pow-le-pow_right}
use native.Mathlib.Omega.{arith}
use borrow.Author.Tests.{leb-true, ltb-true, lt-ltb, le-leb}
use lib.Dec.{eqb, leb, ltb}
use lib.IntN.{ℤ, pos, negsuc, nat_abs}
use lib.ListN.{length, take, get_or, length-append, length-map}
use lib.Seq.{take-append_seam}
use Rattle.rules.specs.Bytes.{ascii, one_of, every}
use Rattle.rules.specs.Status.{by, fields_in_range, status_in_range, warnings, alarms}
use Rattle.rules.specs.Sentences.{fit, numbers02, in_range02, numbers03, in_range03, in_range05}
use Rattle.rules.specs.Answers.{numbers05, message_kind, kind_of, values, allowed}
use Rattle.rules.specs.Messages.{word_from, word, behind, is_up_to, clock_in_range, clock_numbers, message_in_range, message_numbers}
use Rattle.rules.specs.declared.Clock as ClockType
use Rattle.rules.specs.declared.Behind.{Behind}
use Rattle.rules.specs.declared.Behind.TheVariants.{ANumber, AVersion, AClock, Alone, Anything}
use Rattle.rules.specs.declared.Message.{Message}
use Rattle.rules.specs.declared.Message.TheVariants.{Question, Number, Version, Clock, Tune, OtherLetters}
use Rattle.rules.specs.declared.Status as StatusType
use Rattle.rules.specs.declared.Sentence02.{Sentence02}
use Rattle.rules.specs.declared.Sentence03.{Sentence03}
use Rattle.rules.specs.declared.Sentence05.{Sentence05}
use Rattle.rules.specs.declared.Frame.{Frame}
use Rattle.rules.specs.declared.Frame.TheVariants.{Ack, Status, Command, Apa02, Apa03, Apa05, Other, Message as MessageOf}
use Rattle.frame_laws.proofs.Bytes.{tests, both_pass, one_of_these}
use Rattle.frame_laws.proofs.Report.{fits}
use Rattle.frame_laws.proofs.Listed.{number_fits}
use Rattle.frame_laws.proofs.MessageParts.{days_31}
use Rattle.rows.specs.Rows.{kind_row, code_of}
use Rattle.std.specs.Prelude.{Some}
use Rattle.row_writer.specs.Given.{at_most, a_temperature, number_up_to, temperature_of, value_at, byte_limit, word_limit, is_status_row, is_row_of, is_row03, status_from, from02, from03, from05, clock_from, sentence_given, behind_given, response_given, frame_given}

-- Numbers up to a limit, as the first of some values: they pass the test, and each is kept.
abbrev Each : ℕ → List ℕ → Type 0
Each limit [] = Unit
Each limit (n ∷ ns) = (n ≤ limit) × Each limit ns

module _ (limit : ℕ) where
  pass : (ns : List ℕ) → Each limit ns → every (at_most limit) (map pos ns) ≡ true
  unfolding every
  pass [] h = refl
  pass (n ∷ ns) h = both_pass (leb n limit) (every (at_most limit) (map pos ns)) (le-leb n limit h.0) (pass ns h.1)

  kept : (ns : List ℕ) → Each limit ns → (rest : List ℤ) (i : ℕ) → ltb i (length ns) ≡ true → number_up_to limit (value_at (map pos ns ++ rest) i) ≡ get_or ns i 0
  kept [] h rest i e = absurd (omega (arith, ltb-true i 0 e))
  kept (n ∷ ns) h rest zero e = rw (le-leb n limit h.0)
  kept (n ∷ ns) h rest (suc i) e = kept ns h.1 rest i (lt-ltb i (length ns) (omega (arith, ltb-true (suc i) (length (n ∷ ns)) e)))

  row_of : (ns : List ℕ) → Each limit ns → (rest : List ℤ) → is_row_of (length ns) limit (map pos ns ++ rest) ≡ true
  unfolding is_row_of
  row_of ns h rest =
      both_pass _ _
      (le-leb (length ns) (length (map pos ns ++ rest)) (omega (arith, length-append (map pos ns) rest, length-map ns pos)))
      (subst (λ (n : ℕ). every (at_most limit) (take n (map pos ns ++ rest)) ≡ true) (length-map ns pos) (rw (take-append_seam (map pos ns) rest) (pass ns h)))

-- so many values are long enough, whatever stands behind them
long : (vs rest : List ℤ) → leb (length vs) (length (vs ++ rest)) ≡ true
long vs rest = le-leb (length vs) (length (vs ++ rest)) (omega (arith, length-append vs rest))

abbrev Words : List ℕ → Type 0
Words ns = Each 0xFFFFFFFF ns

abbrev AllBytes : List ℕ → Type 0
AllBytes ns = Each 255 ns

-- Sentence 02.
module _ (r : Sentence02) (e : in_range02 r ≡ true) (rest : List ℤ) where
  words02 : Words (numbers02 r)
  unfolding in_range02 fit numbers02
  words02 = let h = simp and-eq-true_iff at e in omega (arith, ltb-true)

  row02 : is_row_of 13 word_limit (values (Apa02 r) ++ rest) ≡ true
  unfolding numbers02
  row02 = row_of 0xFFFFFFFF (numbers02 r) words02 rest

  record02 : from02 (values (Apa02 r) ++ rest) ≡ r
  unfolding from02 numbers02
  record02 =
      let k = kept 0xFFFFFFFF (numbers02 r) words02 rest in
      λ i. record {
        pfwd = k 0 refl i;
        swr = k 1 refl i;
        pin = k 2 refl i;
        vp = k 3 refl i;
        ip = k 4 refl i;
        gain = k 5 refl i;
        vg = k 6 refl i;
        ig = k 7 refl i;
        band = k 8 refl i;
        state = k 9 refl i;
        fault = k 10 refl i;
        key = k 11 refl i;
        pep = k 12 refl i;
      }

  back02 : frame_given 4 2 (values (Apa02 r) ++ rest) ≡ Some (Apa02 r)
  unfolding frame_given sentence_given
  back02 = rw row02 (ap (λ x. Some (Apa02 x)) record02)

-- Sentence 03: a temperature of four digits fits 32 bits with its sign.
small_temperature : (z : ℤ) → nat_abs z ≤ 9999 → a_temperature z ≡ true
small_temperature (pos n) h = le-leb n 0x7FFFFFFF (omega arith)
small_temperature (negsuc n) h = le-leb n 0x7FFFFFFF (omega arith)

module _ (r : Sentence03) (e : in_range03 r ≡ true) (rest : List ℤ) where
  words03 : Words (numbers03 r)
  unfolding in_range03 fit numbers03
  words03 = let h = simp and-eq-true_iff at e in omega (arith, ltb-true)

  temperature03 : a_temperature r.temp ≡ true
  unfolding in_range03
  temperature03 = small_temperature r.temp (search (tests, leb-true))

  row03 : is_row03 (values (Apa03 r) ++ rest) ≡ true
  unfolding is_row03 numbers03
  row03 = both_pass _ _ (both_pass _ _ (long (values (Apa03 r)) rest) (pass 0xFFFFFFFF (numbers03 r) words03)) temperature03

  record03 : from03 (values (Apa03 r) ++ rest) ≡ r
  unfolding from03 numbers03
  record03 =
      let k = kept 0xFFFFFFFF (numbers03 r) words03 rest in
      let temp : temperature_of r.temp ≡ r.temp = rw temperature03 in
      λ i. record {
        v5 = k 0 refl i;
        v12 = k 1 refl i;
        v24 = k 2 refl i;
        m12 = k 3 refl i;
        v40 = k 4 refl i;
        acline = k 5 refl i;
        mbstatus = k 6 refl i;
        mbtap = k 7 refl i;
        temp = temp i;
      }

  back03 : frame_given 4 3 (values (Apa03 r) ++ rest) ≡ Some (Apa03 r)
  unfolding frame_given sentence_given
  back03 = rw row03 (ap (λ x. Some (Apa03 x)) record03)

-- Sentence 05.
module _ (r : Sentence05) (e : in_range05 r ≡ true) (rest : List ℤ) where
  bytes05 : AllBytes (numbers05 r)
  unfolding in_range05
  bytes05 = let h = simp and-eq-true_iff at e in omega (arith, leb-true)

  row05 : is_row_of 11 byte_limit (values (Apa05 r) ++ rest) ≡ true
  row05 = row_of 255 (numbers05 r) bytes05 rest

  record05 : from05 (values (Apa05 r) ++ rest) ≡ r
  unfolding from05
  record05 =
      let k = kept 255 (numbers05 r) bytes05 rest in
      λ i. record {
        band = k 0 refl i;
        segment = k 1 refl i;
        memory = k 2 refl i;
        antenna = k 3 refl i;
        meter = k 4 refl i;
        control = k 5 refl i;
        options = k 6 refl i;
        state = k 7 refl i;
        wtime = k 8 refl i;
        tcmd = k 9 refl i;
        lcmd = k 10 refl i;
      }

  back05 : frame_given 4 5 (values (Apa05 r) ++ rest) ≡ Some (Apa05 r)
  unfolding frame_given sentence_given
  back05 = rw row05 (ap (λ x. Some (Apa05 x)) record05)

-- The status report: ten bytes, eight words, three bytes. Its letters are bytes, and so is its form.
letter : (cs : List ℕ) (b : ℕ) → every (λ c. leb c 255) cs ≡ true → one_of cs b ≡ true → b ≤ 255
letter cs b small e = leb-true b 255 (one_of_these (λ c. leb c 255) cs b small e)

bank_letters : (t : Bool) → every (λ c. leb c 255) (cond t (ascii "x") (ascii "AB")) ≡ true
unfolding every
bank_letters true = refl
bank_letters false = refl

abbrev settings : StatusType.Status → List ℕ
settings s = s.id ∷ s.state ∷ s.direction ∷ s.bank ∷ s.input ∷ s.band ∷ s.transmit ∷ s.tuner ∷ s.receive ∷ s.level ∷ []

abbrev readings : StatusType.Status → List ℕ
readings s = s.watts ∷ s.swratu ∷ s.swrant ∷ s.volts ∷ s.amperes ∷ s.upper ∷ s.lower ∷ s.combiner ∷ []

abbrev signs : StatusType.Status → List ℕ
signs s = s.warning ∷ s.alarm ∷ s.comma ∷ []

module _ (s : StatusType.Status) (e : status_in_range s ≡ true) (rest : List ℤ) where
  settings_bytes : AllBytes (settings s)
  unfolding status_in_range fields_in_range every
  settings_bytes =
      let f = fits s e in
      let state = letter (ascii "SO") s.state refl (search tests depth 25) in
      let direction = letter (ascii "RT") s.direction refl (search tests depth 25) in
      let bank = letter (by s.id (ascii "x") (ascii "AB")) s.bank (bank_letters (eqb s.id 20)) (search tests depth 25) in
      let tuner = letter (ascii "tba") s.tuner refl (search tests depth 25) in
      let level = letter (ascii "LMH") s.level refl (search tests depth 25) in
      omega arith

  readings_words : Words (readings s)
  readings_words = let f = fits s e in omega arith

  signs_bytes : AllBytes (signs s)
  unfolding status_in_range fields_in_range every
  signs_bytes =
      let f = fits s e in
      let warning = letter warnings s.warning refl (search tests depth 25) in
      let alarm = letter alarms s.alarm refl (search tests depth 25) in
      omega arith

  status-row : is_status_row (values (Status s) ++ rest) ≡ true
  unfolding is_status_row
  status-row =
      both_pass _ _
      (both_pass _ _
      (both_pass _ _ (long (values (Status s)) rest) (pass 255 (settings s) settings_bytes))
      (pass 0xFFFFFFFF (readings s) readings_words))
      (pass 255 (signs s) signs_bytes)

  status_record : status_from (values (Status s) ++ rest) ≡ s
  unfolding status_from
  status_record =
      let a = kept 255 (settings s) settings_bytes rest in
      let b = kept 0xFFFFFFFF (readings s) readings_words rest in
      let c = kept 255 (signs s) signs_bytes rest in
      λ i. record {
        id = a 0 refl i;
        state = a 1 refl i;
        direction = a 2 refl i;
        bank = a 3 refl i;
        input = a 4 refl i;
        band = a 5 refl i;
        transmit = a 6 refl i;
        tuner = a 7 refl i;
        receive = a 8 refl i;
        level = a 9 refl i;
        watts = b 0 refl i;
        swratu = b 1 refl i;
        swrant = b 2 refl i;
        volts = b 3 refl i;
        amperes = b 4 refl i;
        upper = b 5 refl i;
        lower = b 6 refl i;
        combiner = b 7 refl i;
        warning = c 0 refl i;
        alarm = c 1 refl i;
        comma = c 2 refl i;
      }

  back_status : frame_given 2 0 (values (Status s) ++ rest) ≡ Some (Status s)
  unfolding frame_given
  back_status = rw status-row (ap (λ x. Some (Status x)) status_record)

-- Messages: a number has at most five digits, and the pairs of a version, of a date and of a time are bytes.
number_word : (letters n width limit : ℕ) → behind letters ≡ ANumber width limit → leb n limit ≡ true → Words (n ∷ [])
number_word letters n width limit is e =
    let fits = number_fits letters width limit is in
    let most : 10 ^ width ≤ 10 ^ 5 = pow-le-pow_right (omega arith) fits.1 in
    (omega (arith, fits.2, leb-true n limit e), tt)

module _ (rest : List ℤ) where
  back_number : (letters n : ℕ) → is_up_to (behind letters) n ≡ true → frame_given 8 letters (pos n ∷ rest) ≡ Some (MessageOf (Number letters n))
  unfolding frame_given response_given
  back_number letters n e = by_behind (behind letters) refl e
    where
      by_behind : (b : Behind) → behind letters ≡ b → is_up_to b n ≡ true → behind_given b letters (pos n ∷ rest) ≡ Some (MessageOf (Number letters n))
      by_behind (ANumber width limit) is up =
          let w = number_word letters n width limit is up in
          rw (row_of word_limit (n ∷ []) w rest) (ap (λ x. Some (MessageOf (Number letters x))) (kept word_limit (n ∷ []) w rest 0 refl))
      by_behind AVersion is up = absurd (false≢true up)
      by_behind AClock is up = absurd (false≢true up)
      by_behind Alone is up = absurd (false≢true up)
      by_behind Anything is up = absurd (false≢true up)

  back_version : (a b : ℕ) → message_in_range (Version a b) ≡ true
      → frame_given 8 (word (ascii "RV")) (pos a ∷ pos b ∷ rest) ≡ Some (MessageOf (Version a b))
  unfolding message_in_range frame_given response_given behind one_of word_from
  back_version a b e =
      let h = simp and-eq-true_iff at e in
      let pairs : AllBytes (a ∷ b ∷ []) = omega (arith, leb-true) in
      let k = kept byte_limit (a ∷ b ∷ []) pairs rest in
      rw (row_of byte_limit (a ∷ b ∷ []) pairs rest) (ap₂ (λ x y. Some (MessageOf (Version x y))) (k 0 refl) (k 1 refl))

module _ (t : ClockType.Clock) (e : clock_in_range t ≡ true) (rest : List ℤ) where
  clock_bytes : AllBytes (clock_numbers t)
  unfolding clock_in_range
  clock_bytes = let h = simp and-eq-true_iff at e in omega (arith, leb-true, days_31 t.year t.month)

  clock_record : clock_from (map pos (clock_numbers t) ++ rest) ≡ t
  unfolding clock_from
  clock_record =
      let k = kept byte_limit (clock_numbers t) clock_bytes rest in
      λ i. record {
        year = k 0 refl i;
        month = k 1 refl i;
        day = k 2 refl i;
        hour = k 3 refl i;
        minute = k 4 refl i;
        second = k 5 refl i;
      }

  back_clock : frame_given 8 (word (ascii "CC")) (map pos (clock_numbers t) ++ rest) ≡ Some (MessageOf (Clock t))
  unfolding frame_given response_given behind one_of word_from
  back_clock = rw (row_of byte_limit (clock_numbers t) clock_bytes rest) (ap (λ x. Some (MessageOf (Clock x))) clock_record)

back_message : (m : Message) → message_in_range m ≡ true → (rest : List ℤ)
    → frame_given (kind_row (message_kind m)) (code_of (message_kind m)) (map pos (message_numbers m) ++ rest) ≡ Some (MessageOf m)
unfolding message_in_range frame_given response_given behind one_of word_from
back_message (Question letters) e rest = refl
back_message (Number letters n) e rest = back_number rest letters n e
back_message (Version a b) e rest = back_version rest a b e
back_message (Clock t) e rest = back_clock t e rest
back_message Tune e rest = refl
back_message (OtherLetters w) e rest = absurd (false≢true e)

pub given_back : (f : Frame) → allowed f ≡ true → (rest : List ℤ) → frame_given (kind_row (kind_of f)) (code_of (kind_of f)) (values f ++ rest) ≡ Some f
unfolding allowed frame_given
given_back (Ack c) e rest = refl
given_back (Status s) e rest = back_status s e rest
given_back (Command c) e rest = refl
given_back (Apa02 r) e rest = back02 r e rest
given_back (Apa03 r) e rest = back03 r e rest
given_back (Apa05 r) e rest = back05 r e rest
given_back (Other n) e rest = absurd (false≢true e)
given_back (MessageOf m) e rest = back_message m e rest
