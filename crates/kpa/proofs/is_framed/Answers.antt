-- `kpa::is_framed` meets its contract: a test that fails is one that a message passes, and the last one is what is left of the
-- definition's.
-- Assumes nothing.
use mathlib.Core.Path.{sym, ◌∙◌}
use Rattle.std.proofs.Common.{arith}
use Rattle.std.proofs.lemmas.Grind.{common_steps}
use Rattle.kpa.proofs.Frames.{Framed, is-message, the_body}
use Rattle.kpa.proofs.is_framed.Goals as goal

pub returns-then-is_letter : goal.returns-then-is_letter
returns-then-is_letter c =
    let f : Framed c.args.s.now = record {
      low = grind (arith, common_steps);
      high = grind (arith, common_steps);
      caret = grind (arith, common_steps);
      semicolon = grind (arith, common_steps);
      letter = grind (arith, common_steps);
    } in
    c.are_body_bytes.ensures ∙ rw (the_body c.args.s.now f) (sym (is-message c.args.s.now f))
