-- The row of a number with a point: its bytes are those of the rules.
-- Assumes nothing.
use Prim.Native.Nat.{ℕ, suc, ◌+◌, ◌^◌, ◌<◌}
use Prim.Native.Char.{code}
use mathlib.Core.Path.{◌≡◌, ap}
use mathlib.Core.List.{List, ◌∷◌}
use native.Mathlib.Nat.{mod-lt, div-lt_iff_lt-mul}
use lib.Pow.{pow-add}
use Rattle.rules.specs.Numbers.{with_point}
use Rattle.frame_laws.proofs.Numbers.{ten_pos, point_length}
use Rattle.pens.specs.Pens.{laid}
use Rattle.pens.proofs.Digits.{number_zeros, number_spaces}
use Rattle.pens.proofs.Rows.{Row, row}
use Rattle.spe_writer.specs.Fields.{point_in}

pub point_row : {a : ℕ} {out after : List ℕ} (d n : ℕ) → n < 10 ^ (2 + d) → after ≡ laid a (point_in d (10 ^ d) n) out → Row a (suc (suc (2 + d))) (code "," ∷ with_point 2 d n) out after
unfolding with_point
point_row d n h e =
    let before = (div-lt_iff_lt-mul (ten_pos d)).1 (rw pow-add at h) in
    row (ap suc (point_length 2 d n)) (rw (number_spaces 1 _ before, number_zeros d _ (mod-lt n (ten_pos d))) at e)
