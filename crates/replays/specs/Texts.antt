-- The texts that show a frame: its kind, its values in the order of document 01, and what the writer makes of it.
use Rattle.std.specs.Prelude.{ℕ, suc, ◌%◌, cond, List, [], ◌∷◌, ◌++◌, ℤ, pos, negsuc, nat_abs, replicate}
use Prim.Native.Char.{code}
use Rattle.rules.specs.Bytes.{ascii}
use Rattle.rules.specs.Answers.{kind_of, status_values, values, allowed, bytes_of}
use Rattle.rules.specs.declared.Kind.{Kind}
use Rattle.rules.specs.declared.Kind.TheVariants.{OfAck, OfStatus, OfCommand, OfSentence, OfQuestion, OfResponse, OfLetters}
use Rattle.rules.specs.declared.Frame.{Frame}
use Rattle.lines.specs.Lines.{decimal_text, spaced_texts, hex_texts}
use Rattle.listings.specs.Kinds.{kind_texts}
use Rattle.replays.specs.declared.values.Form.{Form}
use Rattle.replays.specs.declared.values.Form.TheVariants.{Number, Model, Letter, Joined, Silent}

-- A number, with a minus where it is below zero, behind a space; and the letter that a value is.
unfoldable pub signed_texts : ℤ → List (List ℕ)
signed_texts (pos n) = spaced_texts n
signed_texts (negsuc n) = ascii " -" ∷ decimal_text (suc n) ∷ []

abbrev pub letter_of : ℤ → ℕ
letter_of v = nat_abs v % 256

-- How a field is shown: a number; that of a model, as 20K; a letter behind a space; a letter that is joined to what stands
-- before it; and one that is silent, since the kind has said it.
unfoldable pub field_texts : Form → ℤ → List (List ℕ)
field_texts Number v = signed_texts v
field_texts Model v = signed_texts v ++ ascii "K" ∷ []
field_texts Letter v = (code " " ∷ letter_of v ∷ []) ∷ []
field_texts Joined v = (letter_of v ∷ []) ∷ []
field_texts Silent v = []

-- The forms of the values of each kind, in their order: a status report has letters, and the tuner's is joined to the
-- antenna. The values of other letters are silent. All values of the others are numbers.
unfoldable pub forms_of : Kind → List Form
forms_of (OfAck c) = replicate status_values Number
forms_of OfStatus =
    Model ∷ Letter ∷ Letter ∷ Letter ∷ Number ∷ Number ∷ Number ∷ Joined ∷ Number ∷ Letter ∷ replicate 8 Number
    ++ Letter ∷ Letter ∷ Number ∷ []
forms_of (OfCommand c) = replicate status_values Number
forms_of (OfSentence n) = replicate status_values Number
forms_of (OfQuestion letters) = replicate status_values Number
forms_of (OfResponse letters) = replicate status_values Number
forms_of (OfLetters w) = replicate status_values Silent

-- A question has a question mark in the place of values.
unfoldable pub asked_texts : Kind → List (List ℕ)
asked_texts (OfAck c) = []
asked_texts OfStatus = []
asked_texts (OfCommand c) = []
asked_texts (OfSentence n) = []
asked_texts (OfQuestion letters) = ascii " ?" ∷ []
asked_texts (OfResponse letters) = []
asked_texts (OfLetters w) = []

-- the values in these forms, one behind the other
unfoldable pub shown_texts : List Form → List ℤ → List (List ℕ)
shown_texts [] vs = []
shown_texts (form ∷ forms) [] = []
shown_texts (form ∷ forms) (v ∷ vs) = field_texts form v ++ shown_texts forms vs

-- the written bytes, or a dash where nothing is written
unfoldable pub written_texts : Frame → List (List ℕ)
written_texts f = cond (allowed f) (hex_texts (bytes_of f)) (ascii "-" ∷ [])

unfoldable pub frame_texts : Frame → List (List ℕ)
frame_texts f = kind_texts (kind_of f) ++ asked_texts (kind_of f) ++ shown_texts (forms_of (kind_of f)) (values f) ++ (ascii " | " ∷ []) ++ written_texts f
