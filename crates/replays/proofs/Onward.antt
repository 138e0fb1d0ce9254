-- Values shown in their forms, one behind the other: what is left from a place on, and that there is a form for each value.
-- Assumes nothing.
use Prim.Native.Nat.{ℕ, ◌≤◌}
use mathlib.Core.Path.{◌≡◌, refl}
use mathlib.Core.List.{List, [], ◌∷◌}
use native.Mathlib.Omega.{arith}
use lib.IntN.{ℤ}
use lib.ListN.{length}
use Rattle.rules.specs.Answers.{kind_of, values}
use Rattle.rules.specs.declared.Kind.{Kind}
use Rattle.rules.specs.declared.Kind.TheVariants.{OfAck, OfStatus, OfCommand, OfSentence, OfQuestion, OfResponse, OfLetters}
use Rattle.rules.specs.declared.Frame.{Frame}
use Rattle.records.specs.Told.{value_places}
use Rattle.records.proofs.Places.{few_values}
use Rattle.lines.specs.declared.Line.{Line}
use Rattle.lines.specs.Lines.{typed, Types, LineTypes}
use Rattle.replays.specs.declared.values.Form.{Form}
use Rattle.replays.specs.Texts.{forms_of, shown_texts}

-- no texts leave the line and the place as they are
pub nothing : {line : List ℕ} {at : ℕ} → Types [] line at line at
unfolding typed
nothing = record { leaves = refl }

pub nothing_more : (line : Line) → LineTypes [] line line
nothing_more line = record { types = nothing; same = refl }

-- where the forms or the values are used up, nothing is shown
pub no_form : (forms : List Form) (values : List ℤ) → length forms ≡ 0 → shown_texts forms values ≡ []
unfolding shown_texts
no_form [] values h = refl
no_form (form ∷ forms) values h = absurd (omega (arith, h))

pub no_value : (forms : List Form) (values : List ℤ) → length values ≡ 0 → shown_texts forms values ≡ []
unfolding shown_texts
no_value [] values h = refl
no_value (form ∷ forms) [] h = refl
no_value (form ∷ forms) (v ∷ values) h = absurd (omega (arith, h))

-- there is a form for each value
as_many : (k : Kind) → length (forms_of k) ≡ value_places
unfolding forms_of
as_many (OfAck c) = refl
as_many OfStatus = refl
as_many (OfCommand c) = refl
as_many (OfSentence n) = refl
as_many (OfQuestion letters) = refl
as_many (OfResponse letters) = refl
as_many (OfLetters w) = refl

pub a_form_each : (f : Frame) → length (values f) ≤ length (forms_of (kind_of f))
a_form_each f = rw (as_many (kind_of f)) (few_values f)
