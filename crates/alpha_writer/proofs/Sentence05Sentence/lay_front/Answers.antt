-- Sentence 05's front: the head, the four fields of nibbles and the other three are rows. Assumes nothing.
use mathlib.Core.Path.{refl}
use native.Mathlib.Omega.{arith}
use Rattle.rules.specs.Sentences.{texts05, commas}
use Rattle.pens.proofs.Rows.{row, ◌then◌}
use Rattle.alpha_writer.proofs.Sentence05Sentence.lay_front.Goals as goal

pub returns : goal.returns
unfolding texts05 commas
returns c =
    (row refl c.put_bytes.ensures
    then row refl c.lay_nibbles.ensures
    then row refl c.put_hex_field.ensures
    then row refl c.put_hex_field-2.ensures
    then row refl c.put_hex_field-3.ensures).laying
    (omega (arith, c.requires.room))
