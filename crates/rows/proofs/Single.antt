-- What is promised of an answer that is laid leaves one number and one content of the lent numbers: two results that meet it
-- are equal. And a number is that of one outcome. Assumes nothing.
use Prim.Native.Nat.{ℕ}
use mathlib.Core.Path.{◌≡◌, refl, sym, ap, ◌∙◌}
use mathlib.Core.Bool.{cond}
use mathlib.Core.List.{List}
use lib.Dec.{eqb}
use lib.IntN.{ℤ}
use Rattle.std.specs.Prelude.{Result, Ok, Err}
use Rattle.rules.specs.Refusals.{no_family, no_code, no_record, no_room, is_closed, holds_too_much, too_long}
use Rattle.rules.specs.declared.Refusal.{Refusal}
use Rattle.rules.specs.declared.Refusal.TheVariants.{NoFamily, NoCode, NoRecord, NoRoom, IsClosed, HoldsTooMuch, TooLong, NotGood}
use Rattle.rules.specs.Answers.{Says}
use Rattle.frame_laws.proofs.Single.{one_answer}
use Rattle.stream_rules.specs.declared.Progress.{Progress}
use Rattle.rows.specs.Rows.{outcome_number, LaysRow, Lays, said_by, row_by, number_by}

pub lays_single : (answer : Says) (r numbers : List ℤ) (a b : ℕ) (x y : List ℤ) → Lays answer r numbers a x → Lays answer r numbers b y
    → (a ≡ b) × (x ≡ y)
lays_single answer r numbers a b x y p q =
    let e = one_answer p.answers q.answers in
    (e, p.content ∙ rw e (sym q.content))

-- the same of a row that is laid
pub lays_row_single : (r numbers : List ℤ) (a b : ℕ) (x y : List ℤ) → LaysRow r numbers a x → LaysRow r numbers b y → (a ≡ b) × (x ≡ y)
lays_row_single r numbers a b x y p q =
    let e = one_answer p.answers q.answers in
    (e, p.content ∙ rw e (sym q.content))

-- and of an answer with refusals of any type, whose number is told
pub answer_single : {E : Type 0} (number : E → ℕ) (answer : Result Progress E) (numbers : List ℤ) (a b : Result Unit E) (x y : List ℤ)
    → Lays (said_by number answer) (row_by answer) numbers (number_by number a) x → Lays (said_by number answer) (row_by answer) numbers (number_by number b) y
    → (number_by number a ≡ number_by number b) × (x ≡ y)
answer_single number answer numbers a b x y p q = lays_single (said_by number answer) (row_by answer) numbers (number_by number a) (number_by number b) x y p q

-- the outcome of a number
outcome_of : ℕ → Result Unit Refusal
outcome_of n =
    cond (eqb n 0) (Ok tt)
    (cond (eqb n no_family) (Err NoFamily)
    (cond (eqb n no_code) (Err NoCode)
    (cond (eqb n no_record) (Err NoRecord)
    (cond (eqb n no_room) (Err NoRoom)
    (cond (eqb n is_closed) (Err IsClosed)
    (cond (eqb n holds_too_much) (Err HoldsTooMuch)
    (cond (eqb n too_long) (Err TooLong)
    (Err NotGood))))))))

told : (outcome : Result Unit Refusal) → outcome_of (outcome_number outcome) ≡ outcome
unfolding outcome_of
told (Ok u) = refl
told (Err NoFamily) = refl
told (Err NoCode) = refl
told (Err NoRecord) = refl
told (Err NoRoom) = refl
told (Err IsClosed) = refl
told (Err HoldsTooMuch) = refl
told (Err TooLong) = refl
told (Err NotGood) = refl

pub outcome_single : (a b : Result Unit Refusal) → outcome_number a ≡ outcome_number b → a ≡ b
outcome_single a b e = sym (told a) ∙ ap outcome_of e ∙ told b
