-- The promise of a frame that is read and laid leaves one number and one row: two results that meet it are equal.
-- Assumes nothing.
use Prim.Native.Nat.{ℕ}
use mathlib.Core.Path.{◌≡◌}
use mathlib.Core.List.{List}
use lib.IntN.{ℤ}
use Rattle.rows.proofs.Single.{lays_single}
use Rattle.rows.specs.ReadRows.{ReadsRowAt}

pub reads_row_single : (family : ℕ) (bytes : List ℕ) (taken start skipped : ℕ) (numbers : List ℤ) (a b : ℕ) (x y : List ℤ)
    → ReadsRowAt family bytes taken start skipped numbers a x → ReadsRowAt family bytes taken start skipped numbers b y
    → (a ≡ b) × (x ≡ y)
reads_row_single family bytes taken start skipped numbers a b x y p q = lays_single _ _ numbers a b x y p q
