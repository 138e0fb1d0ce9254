-- Demand 3's rule once more, said with the reader of one frame alone: the good frame that begins earliest, then the one
-- that begins earliest from right behind it on, and so on.
use Rattle.std.specs.Prelude.{ℕ, ◌+◌, ◌≤◌, ◌<◌, ◌≡◌, List, [], ◌∷◌, length}
use Rattle.std.specs.Prelude.{Ok}
use Rattle.rules.specs.Bytes.{part}
use Rattle.rules.specs.Answers.{read_one}
use Rattle.rules.specs.declared.Frame.{Frame}
use Rattle.stream_rules.specs.Rule.{Found}

-- the n bytes from a place on are, as a whole, one good frame
pub record GoodAt (family : ℕ) (bs : List ℕ) (place n : ℕ) (f : Frame) : Type 0 where
  pub inside : place + n ≤ length bs
  pub reads : read_one family (part place n bs) ≡ Ok f

-- no good frame begins from one place on before another
abbrev pub NoneBetween : ℕ → List ℕ → ℕ → ℕ → Type 0
NoneBetween family bs from end = (j n : ℕ) (f : Frame) → from ≤ j → j < end → GoodAt family bs j n f → ⊥

-- The frames from a place on: no good frame begins there or later; or, behind k bytes at which none begins, there is one,
-- and the others are those from right behind it on.
pub data EarliestFirst (family : ℕ) (bs : List ℕ) : ℕ → List Found → Type 0 where
  none : {from : ℕ} → NoneBetween family bs from (length bs) → EarliestFirst family bs from []
  next : {from : ℕ} {fs : List Found} (k n : ℕ) (f : Frame)
      → NoneBetween family bs from (from + k)
      → GoodAt family bs (from + k) n f
      → EarliestFirst family bs (from + k + n) fs
      → EarliestFirst family bs from (record { start = from + k; skipped = k; length = n; frame = f } ∷ fs)
