-- A function that types leaves one possible content of the line and gives one possible place.
-- Assumes nothing.
use Prim.Native.Nat.{ℕ}
use mathlib.Core.Path.{◌≡◌, ap}
use mathlib.Core.List.{List}
use Rattle.frame_laws.proofs.Single.{one_answer}
use Rattle.lines.specs.Lines.{Types}

pub types_single : (texts : List (List ℕ)) (line : List ℕ) (at : ℕ) (x y : List ℕ) (a b : ℕ) → Types texts line at x a → Types texts line at y b → (x ≡ y) × (a ≡ b)
types_single texts line at x y a b p q =
    let same = one_answer p.leaves q.leaves in
    (ap (λ (l : List ℕ × ℕ). l.0) same, ap (λ (l : List ℕ × ℕ). l.1) same)
