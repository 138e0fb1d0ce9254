-- Bytes laid behind the first ones of the places: where there is room for them, what stands at the front is the first
-- ones with them.
-- Assumes nothing.
use Prim.Native.Nat.{ℕ, ◌+◌, ◌≤◌}
use mathlib.Core.Path.{◌≡◌, ap, ◌∙◌}
use mathlib.Core.List.{List, ◌++◌}
use native.Mathlib.Omega.{arith}
use lib.ListN.{length, take, drop, length-append}
use lib.Seq.{length-take-le, take_at}
use Rattle.pens.specs.Pens.{laid}
use Rattle.pens.proofs.Laid.{laid_fits, length_laid}

module _ (count : ℕ) (few places : List ℕ) (long : length places ≡ 133) (room : count + length few ≤ 133) (x : List ℕ) (e : x ≡ laid count few places) where
  both_long : length (take count places ++ few) ≡ count + length few
  both_long = length-append (take count places) few ∙ ap (λ (n : ℕ). n + length few) (length-take-le count places (omega arith))

  pub at_front : take (count + length few) x ≡ take count places ++ few
  at_front =
      ap (take (count + length few)) (e ∙ laid_fits count few places (omega arith))
      ∙ take_at (take count places ++ few) (drop (count + length few) places) (count + length few) both_long

  pub front_long : length (take (count + length few) x) ≡ count + length few
  front_long = ap length at_front ∙ both_long

  pub still_133 : length x ≡ 133
  still_133 = ap length e ∙ length_laid count few places ∙ long
