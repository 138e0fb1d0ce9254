-- Nothing of a line is left out. Texts that have room are all laid, one behind the other; and a line has room for the
-- heading, for the line of any frame and for the last line, with the line feed: a number has at most 20 digits, and a kind
-- at most 40 letters.
-- Assumes nothing.
use Prim.Native.Nat.{ℕ, zero, suc, ◌+◌, ◌-◌, ◌*◌, ◌^◌, ◌≤◌}
use mathlib.Core.Path.{◌≡◌, refl, sym, ap, ◌∙◌}
use mathlib.Core.Bool.{Bool, true, false, cond}
use mathlib.Core.List.{List, [], ◌∷◌, ◌++◌, map, flat_map, append_assoc, append-nil}
use native.Mathlib.Nat.{add-zero, zero-add, add_assoc}
use native.Mathlib.Omega.{arith}
use borrow.Author.Tests.{le-leb}
use lib.Dec.{ltb, eqb}
use lib.ListN.{length, take, drop, length-append, take-append-drop}
use lib.Seq.{take-append_seam}
use Rattle.rules.specs.Bytes.{ascii}
use Rattle.rules.specs.Numbers.{with_zeros}
use Rattle.rules.specs.Messages.{without_zeros, word_letters, letter_words}
use Rattle.rules.specs.Answers.{kind_of}
use Rattle.rules.specs.declared.Kind.{Kind}
use Rattle.rules.specs.declared.Kind.TheVariants.{OfAck, OfStatus, OfCommand, OfSentence, OfQuestion, OfResponse, OfLetters}
use Rattle.frame_laws.proofs.Numbers.{zeros_length}
use Rattle.stream_rules.specs.Rule.{Found}
use Rattle.stream_rules.specs.Lister.{frames}
use Rattle.pens.specs.Pens.{laid}
use Rattle.pens.proofs.Laid.{laid_fits, laid_front, laid_behind, length_laid}
use Rattle.lines.specs.Lines.{typed_one, typed, Types, fewest_digits, decimal_text, refused_texts}
use Rattle.lines.proofs.Typed.{◌then◌}
use Rattle.listings.specs.Kinds.{sentence_texts, kind_texts}
use Rattle.listings.specs.Listing.{heading_texts, line_texts, inside, last_texts, one_text, printed, line_room}

-- Texts that have room are all laid.
all_laid : (texts : List (List ℕ)) (line : List ℕ) (at : ℕ) → at + length (one_text texts) ≤ length line
    → typed texts (line, at) ≡ (laid at (one_text texts) line, at + length (one_text texts))
unfolding typed typed_one flat_map
all_laid [] line at h =
    let none : laid at [] line ≡ line = laid_fits at [] line h ∙ rw (add-zero, append-nil) (take-append-drop at line) in
    rw (none, add-zero)
all_laid (text ∷ texts) line at h =
    let size = length-append text (one_text texts) in
    let kept = length_laid at text line in
    rw (le-leb (at + length text) (length line) (omega (arith, size)))
    (all_laid texts (laid at text line) (at + length text) (omega (arith, size, kept))
    ∙ rw (laid_behind at text (one_text texts) line (omega (arith, size)), size, add_assoc))

-- A line feed behind them makes them the line as it is printed.
ended : (texts : List (List ℕ)) → one_text (texts ++ ascii "\n" ∷ []) ≡ printed texts
unfolding flat_map
ended [] = refl
ended (text ∷ texts) = ap (λ (l : List ℕ). text ++ l) (ended texts) ∙ sym (append_assoc text (one_text texts) (ascii "\n"))

-- So where a line has room with its line feed, what is laid is all of it.
pub all_printed : (texts : List (List ℕ)) (line mid after : List ℕ) (at end : ℕ) → length (printed texts) ≤ length line
    → Types texts line 0 mid at → Types (ascii "\n" ∷ []) mid at after end → take end after ≡ printed texts
all_printed texts line mid after at end room t u =
    let all = ended texts in
    let laid_all = (t then u).leaves ∙ all_laid (texts ++ ascii "\n" ∷ []) line 0 (omega (arith, ap length all)) in
    ap (λ (l : List ℕ × ℕ). take l.1 l.0) laid_all
    ∙ rw (all, zero-add, laid_front (printed texts) line room) (take-append_seam (printed texts) (drop (length (printed texts)) line))

fewest_few : (w n : ℕ) → length (fewest_digits w n) ≤ w
unfolding fewest_digits
fewest_few zero n = omega arith
fewest_few (suc zero) n = omega (arith, zeros_length 1 n)
fewest_few (suc (suc w)) n = case (ltb n (10 ^ suc w)) (fewest_few (suc w) n)
  where
    case : (b : Bool) → length (fewest_digits (suc w) n) ≤ suc w → length (cond b (fewest_digits (suc w) n) (with_zeros (suc (suc w)) n)) ≤ suc (suc w)
    case true few = omega arith
    case false few = omega (arith, zeros_length (suc (suc w)) n)

few_digits : (n : ℕ) → length (decimal_text n) ≤ 20
few_digits n = fewest_few 20 n

without_few : (bs : List ℕ) → length (without_zeros bs) ≤ length bs
unfolding without_zeros
without_few [] = omega arith
without_few (b ∷ bs) = case (eqb b 0) (without_few bs)
  where
    case : (z : Bool) → length (without_zeros bs) ≤ length bs → length (cond z (without_zeros bs) (b ∷ bs)) ≤ suc (length bs)
    case true few = omega arith
    case false few = omega arith

few_letters : (n : ℕ) → length (word_letters n) ≤ 4
unfolding word_letters
few_letters n = without_few _

few_words : (ns : List ℕ) → length (one_text (map word_letters ns)) ≤ 4 * length ns
unfolding flat_map
few_words [] = omega arith
few_words (n ∷ ns) = omega (arith, few_words ns, few_letters n, length-append (word_letters n) (one_text (map word_letters ns)))

short_kind : (k : Kind) → length (one_text (kind_texts k)) ≤ 40
unfolding kind_texts sentence_texts flat_map with_zeros
short_kind (OfAck c) = omega arith
short_kind OfStatus = omega arith
short_kind (OfCommand c) = omega arith
short_kind (OfSentence n) = omega arith
short_kind (OfQuestion n) = rw append-nil (omega (arith, few_letters n))
short_kind (OfResponse n) = rw append-nil (omega (arith, few_letters n))
short_kind (OfLetters w) = few_words (letter_words w)

pub heading_room : length (printed heading_texts) ≤ line_room
unfolding flat_map
heading_room = omega arith

pub frame_room : (f : Found) → length (printed (line_texts f)) ≤ line_room
unfolding flat_map
frame_room f = simp length-append (omega (arith, few_digits f.start, few_digits f.length, few_digits f.skipped, short_kind (kind_of f.frame)))

pub last_room : (family : ℕ) (capture : List ℕ) → length (printed (last_texts family capture)) ≤ line_room
unfolding flat_map
last_room family capture =
    let fs = frames family capture in
    simp length-append (omega (arith, few_digits (length fs), few_digits (length capture), few_digits (length capture - inside fs)))

-- (a refusal has a line of its own)
pub refused_room : (n : ℕ) → length (printed (refused_texts n)) ≤ 32
unfolding flat_map
refused_room n = simp length-append (omega (arith, few_digits n))
