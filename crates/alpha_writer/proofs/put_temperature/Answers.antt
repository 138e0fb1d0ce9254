-- `alpha_writer::put_temperature` meets its contract: comma and sign, the digits before the point, the point and the digit
-- behind it are four rows.
-- Assumes nothing.
use Prim.Native.Nat.{◌/◌, ◌%◌}
use mathlib.Core.Path.{refl, ◌∙◌}
use native.Mathlib.Omega.{arith}
use lib.IntN.{nat_abs}
use Rattle.rules.specs.Numbers.{with_zeros}
use Rattle.rules.specs.Sentences.{temperature_text}
use Rattle.pens.proofs.Digits.{length_number, number_zeros}
use Rattle.pens.proofs.Rows.{row, ◌then◌}
use Rattle.alpha_writer.proofs.Signs.{temperature_read}
use Rattle.alpha_writer.proofs.put_temperature.Goals as goal

pub returns : goal.returns
unfolding temperature_text with_zeros
returns c =
    let size = nat_abs c.args.z in
    (row refl c.put_bytes.ensures then row (length_number _ _ _) c.put_number.ensures then row refl c.put_byte.ensures then row (length_number _ _ _) c.put_number-2.ensures).laying
    (omega (arith, c.requires.1))
    ∙ rw (c.sign_of.ensures, c.unsigned_abs-tenths.ensures.value, temperature_read c.args.z c.requires.0)
    (rw (number_zeros 3 (size / 10) (omega (arith, c.requires.0)), number_zeros 1 (size % 10) (omega arith)))
