-- `amp::amp_list` meets its contract: what the lister answers for the byte is what is told for the family.
-- Assumes nothing.
use Rattle.std.proofs.Common.{ℕ, ◌≡◌, cond, List, leb, refl, ap, ◌∙◌}
use Rattle.std.specs.Prelude.{Result, Ok, Err}
use Rattle.rules.specs.declared.Refusal.{Refusal}
use Rattle.rules.specs.Answers.{said_to_write}
use Rattle.stream_rules.specs.Lister.{listed, said_to_list, Lists}
use Rattle.rows.specs.Rows.{refusal_of}
use Rattle.row_writer.specs.Given.{told_or}
use Rattle.amp.specs.Boundary.{ListsStarts}
use Rattle.amp.proofs.Families.{listed_byte, left_byte}
use Rattle.amp.proofs.amp_list.Goals as goal

-- the number of a count is 0, of whatever it is one
same_number : (told : Result ℕ Refusal) → refusal_of (said_to_write told) ≡ refusal_of (said_to_list told)
same_number (Ok n) = refl
same_number (Err e) = refl

listed_so : (family byte : ℕ) (capture starts : List ℕ) (count : ℕ) (left : List ℕ) (told : Result ℕ Refusal) → byte ≡ cond (leb family 255) family 0
    → Lists byte capture starts told left
    → ListsStarts family capture starts count (refusal_of (said_to_write told)) left (told_or count told)
listed_so family byte capture starts count left told e p =
    let is : told ≡ listed family capture starts = p.answers ∙ listed_byte family byte e capture starts in record {
      answers = same_number told ∙ ap (λ (x : Result ℕ Refusal). refusal_of (said_to_list x)) is;
      content = p.content ∙ left_byte family byte e capture starts;
      counts = ap (told_or count) is;
    }

pub returns : goal.returns
returns c = rw (c.tell.ensures.0, c.tell.ensures.1) (listed_so _ _ _ _ _ _ _ c.family_byte.ensures c.list_frames-told.ensures)
