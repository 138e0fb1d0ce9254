-- `alpha_writer::put_seal` meets its contract: the star and the two sums are three rows.
-- Assumes nothing.
use mathlib.Core.Path.{refl, ◌∙◌}
use native.Mathlib.Nat.{add-sub_cancel}
use native.Mathlib.Omega.{arith}
use Rattle.checksums.specs.Sums.{sums_in}
use Rattle.pens.proofs.Rows.{row, ◌then◌}
use Rattle.alpha_writer.proofs.put_seal.Goals as goal

pub returns : goal.returns
unfolding sums_in
returns c =
    let sums = c.fletcher-sums.ensures in
    (row refl c.put_byte.ensures then row refl c.put_hex.ensures then row refl c.put_hex-2.ensures).laying (omega arith) ∙ rw (sums, add-sub_cancel)
