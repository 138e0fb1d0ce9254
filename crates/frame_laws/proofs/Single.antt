-- Each promise leaves one possible answer, and one possible content of lent memory: two results that meet it are equal. A
-- promise is an equation with the result alone on its left side, or a record of such equations, so it is proved once, for
-- every right side. Assumes nothing.
use Prim.Native.Nat.{ℕ}
use Rattle.rules.specs.Answers.{Read}
use Rattle.rules.specs.Answers.{Wrote}
use mathlib.Core.Path.{◌≡◌, sym, ◌∙◌}
use mathlib.Core.Bool.{Bool}
use mathlib.Core.List.{List}
use denote.Ref.{Bor}
use Rattle.rules.specs.Bytes.{PartOf}
use Rattle.rules.specs.Answers.{Reads, Writes}
use Rattle.rules.specs.declared.Refusal.{Refusal}

pub one_answer : {A : Type 0} {meant a b : A} → a ≡ meant → b ≡ meant → a ≡ b
one_answer p q = p ∙ sym q

-- a reader of one frame
pub read_single : (family : ℕ) (bytes : List ℕ) (a b : Read) → Reads family bytes a → Reads family bytes b → a ≡ b
read_single family bytes a b p q = one_answer p.answers q.answers

-- a writer: its answer and the lent output
pub writes_single : (allowed : Bool) (n : Refusal) (frame out : List ℕ) (a b : Wrote) (x y : List ℕ)
    → Writes allowed n frame out a x → Writes allowed n frame out b y
    → (a ≡ b) × (x ≡ y)
writes_single allowed n frame out a b x y p q = (one_answer p.answers q.answers, one_answer p.content q.content)

-- a part of a lent slice: what it shows, and where it stands
pub part_single : (whole : Bor (List ℕ)) (place : ℕ) (bytes : List ℕ) (a b : Bor (List ℕ)) → PartOf whole place bytes a → PartOf whole place bytes b
    → (a.now ≡ b.now) × (a.ref_ptr ≡ b.ref_ptr)
part_single whole place bytes a b p q = (one_answer p.content q.content, one_answer p.stands q.stands)
