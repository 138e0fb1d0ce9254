-- What it takes for the reader of a family to be exact: that its answer tells of the bytes what it should, and that each
-- frame of the family is read. Then bytes that are no such frame are refused, with number 8. The families of Alpha and of
-- messages use it. Assumes nothing.
use Prim.Native.Nat.{ℕ}
use Rattle.rules.specs.Answers.{Read}
use Rattle.std.specs.Prelude.{Err, Ok}
use mathlib.Core.Path.{◌≡◌, refl, sym, ap, subst, ◌∙◌}
use mathlib.Core.Bool.{Bool, true, false, cond}
use mathlib.Core.List.{List}
use mathlib.Core.Logic.{◌↔◌}
use native.Mathlib.Omega.{arith}
use Rattle.rules.specs.Answers.{read_one, kind_of, family_of, message_kind, messages}
use Rattle.rules.specs.declared.Message as MessageType
use Rattle.rules.specs.declared.Message.TheVariants.{Question, Number, Version, Clock, Tune, OtherLetters}
use Rattle.rules.specs.declared.Frame.{Frame}
use Rattle.frame_laws.proofs.Exact.{IsFrame}
use Rattle.rules.specs.declared.Refusal.TheVariants.{NotGood}
use Rattle.rules.specs.declared.Refusal.{Refusal}

-- What an answer of a family tells of the bytes: a frame, that it is one of this family and that they are it; a refusal,
-- that its number is 8.
abbrev pub ReadsAs : ℕ → List ℕ → Read → Type 0
ReadsAs family bs (Ok f) = (family_of (kind_of f) ≡ family) × IsFrame bs f
ReadsAs family bs (Err n) = n ≡ NotGood

-- what each of two answers tells where the test gives it, the chosen one tells
pub choice : {A : Type 0} (P : A → Type 0) (test : Bool) (x y : A) → (test ≡ true → P x) → (test ≡ false → P y) → P (cond test x y)
choice P true x y passed failed = passed refl
choice P false x y passed failed = failed refl

module _ (family : ℕ) (bs : List ℕ) (tells : ReadsAs family bs (read_one family bs))
    (read : (f : Frame) → family_of (kind_of f) ≡ family → IsFrame bs f → read_one family bs ≡ Ok f) where
  -- Bytes are read as a frame exactly where it is one of this family and they are it;
  pub exact_for : (f : Frame) → (read_one family bs ≡ Ok f) ↔ ((family_of (kind_of f) ≡ family) × IsFrame bs f)
  exact_for f = (λ e. subst (ReadsAs family bs) e tells, λ h. read f h.0 h.1)

  -- where they are no such frame, and only there, they are refused, with number 8.
  pub refused_for : (n : Refusal)
      → (read_one family bs ≡ Err n) ↔ (((f : Frame) → family_of (kind_of f) ≡ family → IsFrame bs f → ⊥) × (n ≡ NotGood))
  refused_for n = (
    λ e. (λ f own h. never f (read f own h) e, subst (ReadsAs family bs) e tells),
    λ h. by_answer h (read_one family bs) refl tells,
  )
    where
      never : (f : Frame) → read_one family bs ≡ Ok f → read_one family bs ≡ Err n → ⊥
      never f g r = let z : ◌≡◌ {A = ℕ} 0 1 = cc in omega arith

      by_answer : ((f : Frame) → family_of (kind_of f) ≡ family → IsFrame bs f → ⊥) × (n ≡ NotGood)
          → (a : Read) → read_one family bs ≡ a → ReadsAs family bs a → read_one family bs ≡ Err n
      by_answer h (Ok f) e t = absurd (h.0 f t.0 t.1)
      by_answer h (Err m) e t = e ∙ ap Err (t ∙ sym h.1)

-- A message is of family 4.
pub message_family : (m : MessageType.Message) → family_of (message_kind m) ≡ messages
message_family (Question n) = refl
message_family (Number n k) = refl
message_family (Version a b) = refl
message_family (Clock c) = refl
message_family Tune = refl
message_family (OtherLetters w) = refl
