-- A temperature's bits are read as the temperature. By cases on the number. Assumes nothing.
use Prim.Native.Nat.{◌≤◌}
use mathlib.Core.Path.{◌≡◌}
use native.Mathlib.Omega.{arith}
use lib.IntN.{ℤ, pos, negsuc, nat_abs}
use mir.Syntax.{w32}
use mir.Val.{SFits, of_z, to_z}
use mir.ValLaws.{to_z-of_z}

temperature_bits : (z : ℤ) → nat_abs z ≤ 9999 → SFits w32 z
temperature_bits (pos n) h = record { sfits = omega arith }
temperature_bits (negsuc n) h = record { sfits = omega arith }

pub temperature_read : (z : ℤ) → nat_abs z ≤ 9999 → to_z w32 (of_z w32 z) ≡ z
temperature_read z h = to_z-of_z w32 z (temperature_bits z h)
