-- Sentence 02's front: the head and the thirteen fields are two rows. Assumes nothing.
use mathlib.Core.Path.{refl}
use native.Mathlib.Omega.{arith}
use Rattle.rules.specs.Numbers.{with_zeros}
use Rattle.rules.specs.Sentences.{numbers02, decimals, commas}
use Rattle.pens.proofs.Rows.{row, ◌then◌}
use Rattle.alpha_writer.proofs.Ranges.{fit02}
use Rattle.alpha_writer.proofs.Sentence02Sentence.lay_front.Goals as goal

pub put_decimals-requires : goal.put_decimals-requires
unfolding numbers02 decimals commas with_zeros
put_decimals-requires c =
    rw c.of_02.ensures (record { fits = fit02 c.args.self c.requires.allowed; room = omega (arith, c.requires.room) })

pub returns : goal.returns
unfolding numbers02 decimals commas with_zeros
returns c =
    (row refl c.put_bytes.ensures then row refl (rw c.of_02.ensures at c.put_decimals.ensures)).laying
    (omega (arith, c.requires.room))
