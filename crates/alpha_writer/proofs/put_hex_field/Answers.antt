-- `alpha_writer::put_hex_field` meets its contract: a comma and two digits are two rows.
-- Assumes nothing.
use mathlib.Core.Path.{refl}
use native.Mathlib.Omega.{arith}
use Rattle.pens.proofs.Rows.{row, ◌then◌}
use Rattle.alpha_writer.proofs.put_hex_field.Goals as goal

pub returns : goal.returns
returns c =
    (row refl c.put_byte.ensures then row refl c.put_hex.ensures).laying (omega arith)
