-- Sentence 03's front: the head, the eight fields and the temperature are three rows. Assumes nothing.
use mathlib.Core.Path.{refl}
use native.Mathlib.Omega.{arith}
use Rattle.rules.specs.Numbers.{with_zeros}
use Rattle.rules.specs.Sentences.{numbers03, decimals, commas, temperature_text}
use Rattle.pens.proofs.Rows.{row, ◌then◌}
use Rattle.alpha_writer.proofs.Ranges.{fit03, temp03}
use Rattle.alpha_writer.proofs.Signs.{temperature_read}
use Rattle.alpha_writer.proofs.Sentence03Sentence.lay_front.Goals as goal

pub put_decimals-requires : goal.put_decimals-requires
unfolding numbers03 decimals commas with_zeros
put_decimals-requires c =
    rw c.of_03.ensures (record { fits = fit03 c.args.self c.requires.allowed; room = omega (arith, c.requires.room) })

pub put_temperature-requires : goal.put_temperature-requires
put_temperature-requires c =
    let small = temp03 c.args.self c.requires.allowed in
    rw (temperature_read c.args.self.temp small) (small, omega (arith, c.requires.room))

pub returns : goal.returns
unfolding numbers03 decimals commas with_zeros temperature_text
returns c =
    (row refl c.put_bytes.ensures
    then row refl (rw c.of_03.ensures at c.put_decimals.ensures)
    then row refl (rw (temperature_read c.args.self.temp (temp03 c.args.self c.requires.allowed)) at c.put_temperature.ensures)).laying
    (omega (arith, c.requires.room))
