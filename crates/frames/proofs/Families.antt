-- What a reader of one frame gives by the family: what is read of that family.
-- Assumes nothing.
use Prim.Native.Nat.{ℕ}
use mathlib.Core.Path.{◌≡◌, refl}
use mathlib.Core.List.{List}
use Rattle.rules.specs.Answers.{read_one, read_family1, read_family2, read_family3}

module _ (bs : List ℕ) where
  pub family1 : read_family1 bs ≡ read_one 1 bs
  unfolding read_one
  family1 = refl

  pub family2 : read_family2 bs ≡ read_one 2 bs
  unfolding read_one
  family2 = refl

  pub family3 : read_family3 bs ≡ read_one 3 bs
  unfolding read_one
  family3 = refl
