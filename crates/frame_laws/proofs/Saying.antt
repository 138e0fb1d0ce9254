-- What the answer of a reader of one frame says in the terms of document 01, from what it is. Assumes nothing.
use Prim.Native.Nat.{ℕ}
use Rattle.rules.specs.Answers.{Read}
use Rattle.rules.specs.Refusals.{no_family}
use Rattle.rules.specs.declared.Refusal.TheVariants.{NoFamily, NotGood}
use Rattle.std.specs.Prelude.{Err, Ok}
use mathlib.Core.Path.{◌≡◌, refl, sym, ap, ◌∙◌}
use mathlib.Core.Bool.{Bool, true, false, ◌&&◌, ◌||◌, cond, not, false≢true}
use mathlib.Core.List.{List, [], ◌∷◌}
use lib.Dec.{eqb}
use Rattle.rules.specs.Bytes.{one_of, same}
use Rattle.rules.specs.Codes.{is_ack, is_command}
use Rattle.rules.specs.Status.{is_status}
use Rattle.rules.specs.Sentences.{is_sentence, payload_of, number_of, texts_of, is02, is03, is05}
use Rattle.rules.specs.Messages.{is_message, body_of, letters_in, behind_letters, word, as_letters, behind, is_number, are_pairs, version_marks, clock_marks, clock_of, clock_in_range}
use Rattle.rules.specs.Answers.{no, said, values_or8, read_family1, read_texts, read_family2, read_family3, or_question, read_behind, read_body, read_family4, read_one, is_family, Reads}
use Rattle.rules.specs.declared.Letters.{Letters}
use Rattle.rules.specs.declared.Behind.{Behind}
use Rattle.rules.specs.declared.Behind.TheVariants.{ANumber, AVersion, AClock, Alone, Anything}
use Rattle.rules.specs.declared.Frame.{Frame}

-- a choice between a frame and refusal 8, as the families' readers make it, says its values or 8
abbrev pub Says8 : Read → Type 0
Says8 r = said r ≡ values_or8 r

frame_or : (test : Bool) (f : Frame) (r : Read) → Says8 r → Says8 (cond test (Ok f) r)
frame_or true f r e = refl
frame_or false f r e = e

or_8 : (test : Bool) (r : Read) → Says8 r → Says8 (cond test r (Err NotGood))
or_8 true r e = e
or_8 false r e = refl

either : (test : Bool) (r s : Read) → Says8 r → Says8 s → Says8 (cond test r s)
either true r s e d = e
either false r s e d = d

family1_says : (bs : List ℕ) → Says8 (read_family1 bs)
unfolding read_family1
family1_says bs = frame_or (is_ack bs) _ _ (frame_or (is_status bs) _ _ refl)

texts_say : (n : ℕ) (ts : List (List ℕ)) → Says8 (read_texts n ts)
unfolding read_texts
texts_say n ts =
    either (eqb n 2) _ _ (frame_or (is02 ts) _ _ refl)
    (either (eqb n 3) _ _ (frame_or (is03 ts) _ _ refl)
    (either (eqb n 5) _ _ (frame_or (is05 ts) _ _ refl) refl))

family2_says : (bs : List ℕ) → Says8 (read_family2 bs)
unfolding read_family2
family2_says bs = or_8 (is_sentence bs) _ (texts_say (number_of (payload_of bs)) (texts_of (payload_of bs)))

family3_says : (bs : List ℕ) → Says8 (read_family3 bs)
unfolding read_family3
family3_says bs = frame_or (is_command bs) _ _ refl

or-question : (n : ℕ) (t : List ℕ) (r : Read) → Says8 r → Says8 (or_question n t r)
or-question n [] r e = refl
or-question n (b ∷ t) r e = e

behind_says : (n : ℕ) (w : Letters) (b : Behind) (t : List ℕ) → Says8 (read_behind n w b t)
behind_says n w (ANumber width limit) t = or-question n t _ (frame_or (is_number width limit t) _ _ refl)
behind_says n w AVersion t = or-question n t _ (frame_or (are_pairs version_marks t) _ _ refl)
behind_says n w AClock t = or-question n t _ (frame_or (are_pairs clock_marks t && clock_in_range (clock_of t)) _ _ refl)
behind_says n w Alone t = frame_or (same t []) _ _ refl
behind_says n w Anything t = refl

family4_says : (bs : List ℕ) → Says8 (read_family4 bs)
unfolding read_family4 read_body
family4_says bs =
    let letters = letters_in (body_of bs) in
    or_8 (is_message bs) _ (behind_says (word letters) (as_letters letters) (behind (word letters)) (behind_letters (body_of bs)))

abbrev by_family : List ℕ → Bool → Bool → Bool → Bool → Read
by_family bs a b c d =
    cond a (read_family1 bs) (cond b (read_family2 bs) (cond c (read_family3 bs) (cond d (read_family4 bs) (Err NoFamily))))

one_says : (family : ℕ) (bs : List ℕ) → said (read_one family bs) ≡ cond (not (is_family family)) (no no_family) (values_or8 (read_one family bs))
unfolding read_one one_of
one_says family bs = case (eqb family 1) (eqb family 2) (eqb family 3) (eqb family 4)
  where
    case : (a b c d : Bool)
        → said (by_family bs a b c d) ≡ cond (not (a || (b || (c || (d || false))))) (no no_family) (values_or8 (by_family bs a b c d))
    case true b c d = family1_says bs
    case false true c d = family2_says bs
    case false false true d = family3_says bs
    case false false false true = family4_says bs
    case false false false false = refl

pub reads : {family : ℕ} {bs : List ℕ} {answer : Read} → answer ≡ read_one family bs → Reads family bs answer
reads {family} {bs} e = record { answers = e; says = ap said e ∙ one_says family bs }

-- Where there is no such family, nothing is read.
pub no-family : (family : ℕ) (bs : List ℕ) → is_family family ≡ false → read_one family bs ≡ Err NoFamily
unfolding read_one one_of
no-family family bs = case (eqb family 1) (eqb family 2) (eqb family 3) (eqb family 4)
  where
    case : (a b c d : Bool) → (a || (b || (c || (d || false)))) ≡ false → by_family bs a b c d ≡ Err NoFamily
    case true b c d e = absurd (false≢true (sym e))
    case false true c d e = absurd (false≢true (sym e))
    case false false true d e = absurd (false≢true (sym e))
    case false false false true e = absurd (false≢true (sym e))
    case false false false false e = refl
