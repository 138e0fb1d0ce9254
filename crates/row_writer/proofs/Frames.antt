-- The frame that is given, by its kind and its number. Assumes nothing.
use Prim.Native.Nat.{ℕ}
use mathlib.Core.Path.{◌≡◌}
use mathlib.Core.List.{List}
use borrow.Author.Tests.{ne_eqb}
use lib.IntN.{ℤ}
use Rattle.rules.specs.declared.Frame.TheVariants.{Ack, Command}
use Rattle.std.specs.Prelude.{Some, None}
use Rattle.row_writer.specs.Given.{sentence_given, frame_given}

module _ (n : ℕ) (vs : List ℤ) where
  pub as_none : (n ≡ 2 → ⊥) → (n ≡ 3 → ⊥) → (n ≡ 5 → ⊥) → None ≡ sentence_given n vs
  unfolding sentence_given
  as_none p q r = rw (ne_eqb n 2 p, ne_eqb n 3 q, ne_eqb n 5 r)

module _ (kind code : ℕ) (vs : List ℤ) where
  pub as_ack : kind ≡ 1 → Some (Ack code) ≡ frame_given kind code vs
  unfolding frame_given
  as_ack e = rw e

  pub as_command : kind ≡ 3 → Some (Command code) ≡ frame_given kind code vs
  unfolding frame_given
  as_command e = rw e

  pub as_sentence : kind ≡ 4 → sentence_given code vs ≡ frame_given kind code vs
  unfolding frame_given
  as_sentence e = rw e
