-- Which family a number is that has been told from the others. By the tests of the definitions. Assumes nothing.
use Prim.Native.Nat.{ℕ}
use mathlib.Core.Path.{◌≡◌, refl, sym}
use mathlib.Core.Bool.{Bool, true, false, ◌||◌, false≢true}
use borrow.Author.Tests.{eqb-true, ne_eqb}
use lib.Dec.{eqb}
use Rattle.rules.specs.Bytes.{one_of}
use Rattle.rules.specs.Answers.{is_family}
use Rattle.lister.specs.GoodLengths.{IsBracketed}

-- a family that is no packets' is one of brackets
pub bracketed_else : (family : ℕ) → is_family family ≡ true → (family ≡ 1 → ⊥) → (family ≡ 3 → ⊥) → IsBracketed family
bracketed_else family known not-1 not-3 = (rw (ne_eqb family 1 not-1, ne_eqb family 3 not-3), known)

-- of those between brackets, the one that is not 4
pub sentences_else : (family : ℕ) → IsBracketed family → (family ≡ 4 → ⊥) → family ≡ 2
unfolding one_of
sentences_else family is not-4 =
    by (eqb family 1) (eqb family 2) (eqb family 3) refl is.0 (rw (ne_eqb family 4 not-4) at is.1)
  where
    by : (a b c : Bool) → eqb family 2 ≡ b → (a || c) ≡ false → (a || (b || (c || false))) ≡ true → family ≡ 2
    by a true c e no_spe k = eqb-true family 2 e
    by true false c e no_spe k = absurd (false≢true (sym no_spe))
    by false false true e no_spe k = absurd (false≢true (sym no_spe))
    by false false false e no_spe k = absurd (false≢true k)
