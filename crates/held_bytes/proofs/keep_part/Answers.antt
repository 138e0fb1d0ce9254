-- `held_bytes::keep_part` meets its contract: a part that does not begin at the front is laid at the front of zeros.
-- Assumes nothing.
use mathlib.Core.Path.{ap, ◌∙◌}
use mathlib.Core.List.{List}
use Prim.Native.Nat.{ℕ}
use native.Mathlib.Omega.{arith}
use lib.ListN.{drop, length-take, length-drop}
use Rattle.rules.specs.Bytes.{part}
use Rattle.pens.specs.Pens.{laid}
use Rattle.held_bytes.proofs.Buffers.{zeros, fills}
use Rattle.held_bytes.proofs.keep_part.Goals as goal

pub returns : goal.returns
returns c =
    let a = c.args in
    let bytes = part a.a a.n a.places.now in
    c.put_bytes.ensures
    ∙ ap (λ (l : List ℕ). laid 0 l (zeros 133)) c.text.ensures.content
    ∙ fills bytes (omega (arith, length-take a.n (drop a.a a.places.now), length-drop a.a a.places.now))
