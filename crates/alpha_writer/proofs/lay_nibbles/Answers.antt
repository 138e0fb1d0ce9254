-- `alpha_writer::lay_nibbles` meets its contract: its rows are fields 1 to 4, each of two nibbles that fit one.
-- Assumes nothing.
use mathlib.Core.Path.{refl, ◌∙◌}
use native.Mathlib.Omega.{arith}
use Rattle.rules.specs.Sentences.{texts05, commas}
use Rattle.pens.proofs.Rows.{row, ◌then◌}
use Rattle.alpha_writer.proofs.lay_nibbles.Goals as goal

pub returns : goal.returns
unfolding texts05 commas
returns c =
    (row refl c.put_hex_field.ensures then row refl c.put_hex_field-2.ensures then row refl c.put_hex_field-3.ensures then row refl c.put_hex_field-4.ensures).laying
    (omega (arith, c.requires.1))
    ∙ rw (c.join.ensures, c.join-2.ensures, c.join-3.ensures, c.join-4.ensures)
