-- A line that is laid from its front: the texts of a line on which nothing stood, and more behind them.
-- Assumes nothing.
use mathlib.Core.Path.{◌≡◌, ◌∙◌}
use mathlib.Core.List.{List, ◌++◌}
use Prim.Native.Nat.{ℕ}
use Rattle.lines.specs.Lines.{LineTypes}
use Rattle.lines.specs.declared.Line.{Line}
use Rattle.lines.proofs.Typed.{◌then◌}
use Rattle.listings.specs.Tallies.{LaysLine}

pub from_front : {texts : List (List ℕ)} {line after : Line} → line.end ≡ 0 → LineTypes texts line after → LaysLine texts line after
from_front empty p = record { types = rw empty at p.types; same = p.same }

pub more : {xs ys : List (List ℕ)} {line mid after : Line} → LaysLine xs line mid → LineTypes ys mid after → LaysLine (xs ++ ys) line after
more p q = record { types = p.types then q.types; same = q.same ∙ p.same }
