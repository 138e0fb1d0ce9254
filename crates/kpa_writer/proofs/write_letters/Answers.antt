-- `kpa_writer::write_letters` meets its contract: the caret, the letters, which are the last of their number's four bytes,
-- the text and the semicolon are four rows, laid one behind the other where they fit.
-- Assumes nothing.
use mathlib.Core.Path.{refl, sym, ◌∙◌}
use mathlib.Core.List.{append_assoc}
use native.Mathlib.Omega.{arith}
use Rattle.rules.specs.Messages.{word_letters}
use Rattle.pens.proofs.Rows.{row, ◌then◌}
use Rattle.pens.proofs.Writing.{writes}
use Rattle.kpa.proofs.LastLetters.{part_letters}
use Rattle.kpa_writer.proofs.write_letters.Goals as goal

pub returns : goal.returns
returns c =
    let word = c.args.letters in
    let last = part_letters word _ _ c.word_length-n.ensures c.word_bytes-bytes.ensures in
    let letters = row {n = c.word_length-n.result} {p = word_letters word} (sym c.word_length-n.ensures) (rw last at c.put_bytes.ensures) in
    let rows = row refl c.put_byte.ensures then (letters then (row refl c.put_bytes-2.ensures then row refl c.put_byte-2.ensures)) in
    rw (append_assoc (word_letters word)) (writes refl (rows.size ∙ omega arith) (omega arith) (rows.laying (omega arith)))
