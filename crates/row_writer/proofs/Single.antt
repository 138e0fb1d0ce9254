-- The promise leaves one possible answer, one content of the lent output and one length: two results that meet it are
-- equal. Assumes nothing.
use Prim.Native.Nat.{ℕ}
use mathlib.Core.Path.{◌≡◌}
use mathlib.Core.Bool.{Bool}
use mathlib.Core.List.{List}
use Rattle.rules.specs.declared.Refusal.{Refusal}
use Rattle.frame_laws.proofs.Single.{one_answer}
use Rattle.row_writer.specs.Given.{WritesNumbers}

pub numbers_single : (may : Bool) (e : Refusal) (frame out : List ℕ) (before a b : ℕ) (x y : List ℕ) (k m : ℕ)
    → WritesNumbers may e frame out before a x k → WritesNumbers may e frame out before b y m
    → (a ≡ b) × (x ≡ y) × (k ≡ m)
numbers_single may e frame out before a b x y k m p q =
    (one_answer p.answers q.answers, one_answer p.content q.content, one_answer p.told q.told)
