-- `captures::walks::next` meets its contract: the part is that of the span which `find` gives, and the reader's place is behind it.
-- Assumes nothing.
use Rattle.std.specs.Prelude.{None}
use Rattle.captures.proofs.Facts.{nothing_shown, gives}
use mathlib.Core.Path.{refl}
use Rattle.captures.proofs.walks.next.Goals as goal

pub returns : goal.returns
returns c = gives _ _ c.args.reader.now _ _ c.in-Some.ensures c.text.ensures

pub returns-in_default : goal.returns-in_default
returns-in_default c = gives _ _ c.args.reader.now _ None c.in_default.ensures (nothing_shown c.args.reader.now.capture _ refl refl)
