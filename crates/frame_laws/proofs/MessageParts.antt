-- The two parts of a written message: the letters of its number, and what is put behind them. Each kind of message that has
-- a writer is laid out so, and nothing else could stand there; the theorems of family 4 go from that, once for all kinds.
-- By the laws of numbers and of pairs. Assumes nothing.
use Prim.Native.Nat.{ℕ, ◌+◌, ◌%◌, ◌≤◌}
use mathlib.Core.Path.{◌≡◌, refl, sym, ap, ◌∙◌}
use mathlib.Core.Bool.{Bool, true, false, ◌&&◌, and-true, false≢true}
use mathlib.Core.List.{List, [], ◌∷◌, ◌++◌, append-nil}
use mathlib.Core.Logic.Iff
use mathlib.Core.Logic.{◌↔◌, ◌≢◌}
use native.Mathlib.Omega.{arith}
use lib.Dec.{eqb, leb}
use lib.ListN.{length, take, get_or}
use borrow.Author.Tests.{leb-true, le-leb, lt-leb, ne_eqb}
use Rattle.rules.specs.Bytes.{ascii, one_of, every, first}
use Rattle.rules.specs.Numbers.{is_digit, with_zeros}
use Rattle.rules.specs.Messages.{is_body_byte, is_capital, is_letter, letter_run, message_frame, word_from, word, without_zeros, word_letters, behind, is_number, are_pairs, version_marks, clock_marks, clock_of, days_in, clock_in_range, is_asked, is_up_to, message_in_range, width_of, pairs_text, clock_numbers, message_bytes}
use Rattle.rules.specs.Answers.{bytes_of, has_writer}
use Rattle.rules.specs.Form.{message_form}
use Rattle.rules.specs.declared.Clock as ClockType
use Rattle.rules.specs.declared.Behind.{Behind}
use Rattle.rules.specs.declared.Behind.TheVariants.{ANumber, AVersion, AClock, Alone, Anything}
use Rattle.rules.specs.declared.Message as MessageType
use Rattle.rules.specs.declared.Message.TheVariants.{Question, Number, Version, Clock, Tune, OtherLetters}
use Rattle.rules.specs.declared.Frame.TheVariants.{Message}
use Rattle.frame_laws.proofs.Bytes.{tests, between_bounds, every_split, every_take, every_weaker}
use Rattle.frame_laws.proofs.Numbers.{zeros_length, zeros_read}
use Rattle.frame_laws.proofs.Exact.{AreLetters, IsBehind}
use Rattle.frame_laws.proofs.Reading.{choice}
use Rattle.frame_laws.proofs.Pairs.{number_good, number_again, is_pair, pairs_in, pairs_good, pairs_read, pairs_length, pairs_front, pairs_below, pairs_again, pairs_bytes}
use Rattle.frame_laws.proofs.Listed.{is_listed, asked_listed, listed_length, number_fits}

-- Digits and capitals are bytes of a body, being neither caret nor semicolon; and a digit is no letter.
body_byte : (b : ℕ) → 48 ≤ b → b ≤ 90 → b ≢ 59 → is_body_byte b ≡ true
unfolding is_body_byte
body_byte b low high semicolon = rw (le-leb 32 b (omega arith), le-leb b 126 (omega arith), ne_eqb b 94 (omega arith), ne_eqb b 59 semicolon)

digit_byte : (b : ℕ) → is_digit b ≡ true → is_body_byte b ≡ true
digit_byte b e = let h = between_bounds 48 57 b e in body_byte b (omega arith) (omega arith) (omega arith)

pub capital_byte : (b : ℕ) → is_capital b ≡ true → is_body_byte b ≡ true
capital_byte b e = let h = between_bounds 65 90 b e in body_byte b (omega arith) (omega arith) (omega arith)

digit_no_letter : (b : ℕ) → is_digit b ≡ true → is_letter b ≡ false
unfolding is_letter
digit_no_letter b e = let h = between_bounds 48 57 b e in rw (lt-leb 65 b (omega arith), lt-leb 97 b (omega arith))

-- a text that begins with digits begins with no letter
digits_first : (t : List ℕ) → every is_digit (take 2 t) ≡ true → is_letter (first t) ≡ false
digits_first [] e = unfold is_letter in refl
digits_first (b ∷ t) e = digit_no_letter b (every_split is_digit b (take 1 t) e).0

-- What may stand behind letters: it begins with no letter, and has bytes of a body.
pub record Plain (t : List ℕ) : Type 0 where
  pub ends : is_letter (first t) ≡ false
  pub clean : every is_body_byte t ≡ true

-- so are nothing, a number and pairs
nothing_plain : Plain []
unfolding is_letter every
nothing_plain = record { ends = refl; clean = refl }

number_plain : (width limit : ℕ) (t : List ℕ) → is_number width limit t ≡ true → Plain t
unfolding is_number
number_plain width limit t e =
    let digits : every is_digit t ≡ true = search tests in
    record { ends = digits_first t (every_take is_digit 2 t digits); clean = every_weaker is_digit is_body_byte digit_byte t digits }

pairs_plain : (marks t : List ℕ) → every is_body_byte marks ≡ true → are_pairs marks t ≡ true → Plain t
pairs_plain marks t m e = record { ends = digits_first t (pairs_front marks t e); clean = pairs_bytes is_body_byte digit_byte marks t m e }

-- The numbers of a date and a time in range have two digits each, and a clock is what they say.
pub days_31 : (year month : ℕ) → days_in year month ≤ 31
unfolding days_in
days_31 year month =
    choice (λ (d : ℕ). d ≤ 31) (eqb month 2) _ _
    (λ _. choice (λ (d : ℕ). d ≤ 31) (eqb (year % 4) 0) _ _ (λ _. omega arith) (λ _. omega arith))
    (λ _. choice (λ (d : ℕ). d ≤ 31) (one_of (4 ∷ 6 ∷ 9 ∷ 11 ∷ []) month) _ _ (λ _. omega arith) (λ _. omega arith))

clock_pairs : (c : ClockType.Clock) → clock_in_range c ≡ true → every is_pair (clock_numbers c) ≡ true
unfolding clock_in_range every
clock_pairs c e =
    rw (
      below c.year 99 (search tests depth 20) (omega arith),
      below c.month 12 (search tests depth 20) (omega arith),
      below c.day (days_in c.year c.month) (search tests depth 20) (omega (arith, days_31 c.year c.month)),
      below c.hour 23 (search tests depth 20) (omega arith),
      below c.minute 59 (search tests depth 20) (omega arith),
      below c.second 59 (search tests depth 20) (omega arith),
    )
  where
    below : (n most : ℕ) → leb n most ≡ true → most ≤ 99 → is_pair n ≡ true
    below n most h less = le-leb n 99 (omega (arith, leb-true n most h))

-- of a version they are two
two_pairs : (a b : ℕ) → every is_pair (a ∷ b ∷ []) ≡ (is_pair a && is_pair b)
unfolding every
two_pairs a b = ap (λ (x : Bool). is_pair a && x) (and-true (is_pair b))

clock_told : (t : List ℕ) (c : ClockType.Clock) → pairs_in clock_marks t ≡ clock_numbers c → clock_of t ≡ c
unfolding clock_of
clock_told t c e =
    λ i. record {
      year = get_or (e i) 0 0;
      month = get_or (e i) 1 0;
      day = get_or (e i) 2 0;
      hour = get_or (e i) 3 0;
      minute = get_or (e i) 4 0;
      second = get_or (e i) 5 0;
    }

numbers_told : (t : List ℕ) → pairs_in clock_marks t ≡ clock_numbers (clock_of t)
unfolding clock_of
numbers_told t = refl

-- The number of a message's letters, and what its writer puts behind them.
abbrev pub word_of : MessageType.Message → ℕ
word_of (Question n) = n
word_of (Number n k) = n
word_of (Version a b) = word (ascii "RV")
word_of (Clock c) = word (ascii "CC")
word_of Tune = word (ascii "FT")
word_of (OtherLetters w) = 0

abbrev pub behind_text : MessageType.Message → List ℕ
behind_text (Question n) = []
behind_text (Number n k) = with_zeros (width_of (behind n)) k
behind_text (Version a b) = pairs_text version_marks (a ∷ b ∷ [])
behind_text (Clock c) = pairs_text clock_marks (clock_numbers c)
behind_text Tune = []
behind_text (OtherLetters w) = []

-- How a message is laid out: listed letters and a text behind them, which are what the writer puts into its frame; they are
-- the letters of this message and what stands behind them, and the only ones; and its form is that the letters are capitals.
pub record Laid (m : MessageType.Message) (n : ℕ) (t : List ℕ) : Type 0 where
  pub listed : is_listed (behind n) ≡ true
  pub bytes : message_bytes m ≡ message_frame (word_letters n ++ t)
  pub letters : (ls : List ℕ) → AreLetters m ls ↔ (ls ≡ word_letters n)
  pub stands : IsBehind m t
  pub only : (u : List ℕ) → IsBehind m u → u ≡ t
  pub plain : Plain t
  pub short : length (word_letters n) + length t ≤ 19
  pub form : (body : List ℕ) → message_form m body ≡ every is_capital (letter_run body)

-- Where a number may be behind letters, it is of their width and up to their limit.
up_to : (b : Behind) (k : ℕ) → is_up_to b k ≡ true → (width : ℕ) × (limit : ℕ) × (b ≡ ANumber width limit) × (k ≤ limit)
up_to (ANumber width limit) k e = (width, limit, refl, leb-true k limit e)
up_to AVersion k e = absurd (false≢true e)
up_to AClock k e = absurd (false≢true e)
up_to Alone k e = absurd (false≢true e)
up_to Anything k e = absurd (false≢true e)

-- Each kind of message with a writer is laid out so: a question;
laid_question : (n : ℕ) → is_asked (behind n) ≡ true → Laid (Question n) n []
unfolding message_bytes
laid_question n fits = record {
  listed = asked_listed (behind n) fits;
  bytes = ap message_frame (sym (append-nil (word_letters n)));
  letters = λ ls. Iff.rfl;
  stands = (fits, refl);
  only = λ u h. h.1;
  plain = nothing_plain;
  short = omega (arith, listed_length n (asked_listed (behind n) fits));
  form = λ body. refl;
}

-- a number;
laid-number : (n k width limit : ℕ) → behind n ≡ ANumber width limit → k ≤ limit → Laid (Number n k) n (behind_text (Number n k))
unfolding message_bytes
laid-number n k width limit e fits =
    let wide = number_fits n width limit e in
    let good = number_good width limit k fits wide.2 in
    record {
      listed = rw e;
      bytes = refl;
      letters = λ ls. Iff.rfl;
      stands = rw e (width, limit, refl, good, sym (zeros_read width k (omega arith)));
      only = λ u h. sym (number_again h.0 h.1 u h.3) ∙ (λ i. with_zeros (width_of (sym h.2 i)) (sym h.4 i));
      plain = rw e (number_plain width limit (with_zeros width k) good);
      short = rw (e, zeros_length width k) (omega (arith, listed_length n (rw e)));
      form = λ body. refl;
    }

-- pairs of two digits behind two letters; those of a version and of a clock have their own letters and their own marks;
laid_version : (a b : ℕ) → is_pair a && is_pair b ≡ true → Laid (Version a b) (word_of (Version a b)) (behind_text (Version a b))
unfolding message_bytes behind one_of word_from word_letters without_zeros every is_body_byte
laid_version a b fits =
    let pairs = two_pairs a b ∙ fits in
    let good = pairs_good version_marks (a ∷ b ∷ []) refl pairs in
    let read = pairs_read version_marks (a ∷ b ∷ []) refl pairs in
    record {
      listed = refl;
      bytes = refl;
      letters = λ ls. Iff.rfl;
      stands = (good, ap (λ (l : List ℕ). get_or l 0 0) (sym read), ap (λ (l : List ℕ). get_or l 1 0) (sym read));
      only = λ u h. sym (pairs_again version_marks u h.0) ∙ (λ i. pairs_text version_marks (sym h.1 i ∷ sym h.2 i ∷ []));
      plain = pairs_plain version_marks (behind_text (Version a b)) refl good;
      short = omega (arith, pairs_length version_marks (behind_text (Version a b)) good);
      form = λ body. refl;
    }

laid_clock : (c : ClockType.Clock) → clock_in_range c ≡ true → Laid (Clock c) (word_of (Clock c)) (behind_text (Clock c))
unfolding message_bytes behind one_of word_from word_letters without_zeros every is_body_byte
laid_clock c fits =
    let good = pairs_good clock_marks (clock_numbers c) refl (clock_pairs c fits) in
    let read = pairs_read clock_marks (clock_numbers c) refl (clock_pairs c fits) in
    record {
      listed = refl;
      bytes = refl;
      letters = λ ls. Iff.rfl;
      stands = (good, fits, sym (clock_told (behind_text (Clock c)) c read));
      only = λ u h. sym (pairs_again clock_marks u h.0) ∙ ap (pairs_text clock_marks) (numbers_told u ∙ ap clock_numbers (sym h.2));
      plain = pairs_plain clock_marks (behind_text (Clock c)) refl good;
      short = omega (arith, pairs_length clock_marks (behind_text (Clock c)) good);
      form = λ body. refl;
    }

-- and a tune.
laid_tune : Laid Tune (word_of Tune) []
unfolding message_bytes behind one_of word_from word_letters without_zeros
laid_tune = record {
  listed = refl;
  bytes = refl;
  letters = λ ls. Iff.rfl;
  stands = refl;
  only = λ u h. h;
  plain = nothing_plain;
  short = omega arith;
  form = λ body. refl;
}

-- So is every message in range.
pub laid : (m : MessageType.Message) → message_in_range m ≡ true → Laid m (word_of m) (behind_text m)
unfolding message_in_range
laid (Question n) fits = laid_question n fits
laid (Number n k) fits = let b = up_to (behind n) k fits in laid-number n k b.0 b.1 b.2 b.3
laid (Version a b) fits = laid_version a b fits
laid (Clock c) fits = laid_clock c fits
laid Tune fits = laid_tune
laid (OtherLetters w) fits = absurd (false≢true fits)

-- A message with a writer, of which this stands behind the letters, is in range.
pub behind_in_range : (m : MessageType.Message) (t : List ℕ) → has_writer (Message m) ≡ true → IsBehind m t → message_in_range m ≡ true
unfolding message_in_range bytes_of message_bytes is_number
behind_in_range (Question n) t writer h = h.0
behind_in_range (Number n k) t writer h = let good = h.3 in rw (h.2, h.4) (search tests)
behind_in_range (Version a b) t writer h =
    sym (two_pairs a b) ∙ (λ i. every is_pair (h.1 i ∷ h.2 i ∷ [])) ∙ pairs_below version_marks t h.0
behind_in_range (Clock c) t writer h = h.1
behind_in_range Tune t writer h = refl
behind_in_range (OtherLetters w) t writer h = absurd (false≢true writer)
