-- `spe_writer::status::put_point` meets its contract: the bytes before the point, the point and those behind it are three rows.
-- Assumes nothing.
use Prim.Native.Nat.{suc}
use mathlib.Core.Path.{refl, ap, ◌∙◌}
use mathlib.Core.List.{append_assoc}
use native.Mathlib.Omega.{arith}
use Rattle.pens.proofs.Digits.{length_number}
use Rattle.pens.proofs.Rows.{row, ◌then◌}
use Rattle.spe_writer.proofs.status.put_point.Goals as goal

pub returns : goal.returns
returns c =
    (row (ap suc (length_number _ _ _)) c.put_field.ensures then row refl c.put_byte.ensures then row (length_number _ _ _) c.put_number.ensures).laying
    (omega arith)
    ∙ simp append_assoc
