-- `listings::table::last_line` meets its contract: the texts are laid one behind the other, and where all frames are listed
-- the counts are those of the rule's frames.
-- Assumes nothing.
use Rattle.std.proofs.Common.{ℕ, ◌-◌, List, ◌∷◌, ◌++◌, length, arith}
use Rattle.rules.specs.Bytes.{ascii}
use Rattle.lines.specs.Lines.{LineTypes, spaced_texts}
use Rattle.lines.specs.declared.Line.{Line}
use Rattle.lines.proofs.Typed.{◌next◌}
use Rattle.listings.specs.Listing.{last_texts}
use Rattle.listings.specs.declared.table.Tally.{Tally}
use Rattle.listings.proofs.Fronts.{from_front}
use Rattle.listings.proofs.Tallies.{Told, all_told}
use Rattle.listings.proofs.table.last_line.Goals as goal

-- what is told is what the last line tells
told : (family : ℕ) (capture : List ℕ) (t : Tally) {line after : Line} → Told family capture t
    → LineTypes (ascii "frames" ∷ spaced_texts t.listed ++ ascii " bytes" ∷ spaced_texts (length capture) ++ ascii " skipped" ∷ spaced_texts (length capture - t.inside)) line after
    → LineTypes (last_texts family capture) line after
told family capture t is typed = rw (is.all, is.bytes) at typed

pub overflow_sub-capture : goal.overflow_sub-capture
overflow_sub-capture c =
    let is = all_told _ _ c.args.tally c.requires.all in
    omega (arith, is.bytes, is.within)

pub returns : goal.returns
returns c =
    from_front c.requires.empty
    (told _ _ _ (all_told _ _ c.args.tally c.requires.all)
    (c.text.ensures
    next c.spaced.ensures
    next c.text-2.ensures
    next c.spaced-2.ensures
    next c.text-3.ensures
    next c.spaced-3.ensures))
