-- What a number stands for: a family of SPE packets, or one of brackets; what is no family goes with these.
-- By the tests of the definitions. Assumes nothing.
use Prim.Native.Nat.{ℕ}
use mathlib.Core.Path.{◌≡◌, refl}
use mathlib.Core.Bool.{Bool, true, false, ◌||◌, false≢true}
use mathlib.Core.Logic.{◌⊎◌, inl, inr}
use borrow.Author.Tests.{eqb-true}
use lib.Dec.{eqb}
use Rattle.rules.specs.Answers.{replies, commands}
use Rattle.stream_rules.specs.Heads.{is_spe}
use Rattle.stream_laws.proofs.Bracketed.{Bracketed, bracketed}

-- The families of SPE packets are 1 and 3.
pub spe_cases : (family : ℕ) → is_spe family ≡ true → (family ≡ replies) ⊎ (family ≡ commands)
spe_cases family = by (eqb family replies) (eqb family commands) refl refl
  where
    by : (a b : Bool) → eqb family replies ≡ a → eqb family commands ≡ b → (a || b) ≡ true → (family ≡ replies) ⊎ (family ≡ commands)
    by true b p q e = inl (eqb-true family replies p)
    by false true p q e = inr (eqb-true family commands q)
    by false false p q e = absurd (false≢true e)

pub data Number (family : ℕ) : Type 0 where
  of_packets : is_spe family ≡ true → Number family
  of_brackets : Bracketed family → Number family

pub number : (family : ℕ) → Number family
number family = by (is_spe family) refl
  where
    by : (b : Bool) → is_spe family ≡ b → Number family
    by true e = of_packets e
    by false e = of_brackets (bracketed family e)
