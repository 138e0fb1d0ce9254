-- `pens::put_field` meets its contract: a comma and a number behind it are two rows, laid where both fit.
-- Assumes nothing.
use mathlib.Core.Path.{refl}
use native.Mathlib.Omega.{arith}
use Rattle.pens.proofs.Digits.{length_number}
use Rattle.pens.proofs.Rows.{row, ◌then◌}
use Rattle.pens.proofs.put_field.Goals as goal

pub returns : goal.returns
returns c = (row refl c.put_byte.ensures then row (length_number _ _ _) c.put_number.ensures).laying (omega arith)
