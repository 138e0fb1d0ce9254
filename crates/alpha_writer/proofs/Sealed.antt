-- A sentence is its payload behind the dollar sign, sealed by the sums of what was laid there.
-- Assumes nothing.
use Prim.Native.Nat.{ℕ, ◌+◌, ◌≤◌}
use Prim.Native.Char.{code}
use mathlib.Core.Path.{◌≡◌, refl, sym}
use mathlib.Core.List.{List, [], ◌∷◌, ◌++◌, append_assoc}
use native.Mathlib.Omega.{arith}
use lib.ListN.{length, length-append}
use Rattle.rules.specs.Bytes.{part}
use Rattle.rules.specs.Numbers.{hex_digits}
use Rattle.rules.specs.Sentences.{sum1, sum2, sentence_frame}
use Rattle.pens.specs.Pens.{laid}
use Rattle.pens.proofs.Rows.{row, sealed}
use Rattle.alpha_writer.specs.Parts.{front, seal}

module _ (n : ℕ) (p : List ℕ) (size : length p ≡ n) where
  frame_sealed : front p ++ seal p ≡ sentence_frame p
  unfolding sentence_frame
  frame_sealed = sym (append_assoc (front p) (code "*" ∷ hex_digits (sum2 p)) (hex_digits (sum1 p)))

  pub frame_length : length (sentence_frame p) ≡ n + 6
  frame_length = rw (← frame_sealed) (omega (arith, length-append (front p) (seal p), size))

  pub sentence_laid : (out mid after : List ℕ) → n + 6 ≤ length out → mid ≡ laid 0 (front p) out → after ≡ laid (n + 1) (seal (part 1 n mid)) mid
      → after ≡ laid 0 (sentence_frame p) out
  sentence_laid out mid after room first second =
      let place : n + 1 ≡ 1 + n = omega arith in
      rw (← frame_sealed)
      ((sealed 1 n 5 (code "$" ∷ []) p seal refl size refl (row (omega (arith, size)) first) (rw place at second)).laying (omega arith))
