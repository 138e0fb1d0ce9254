-- `spe::codes::is_code` meets its contract: its tests, computed over all bytes, are the rule.
-- Assumes nothing.
use Prim.Native.Nat.{ℕ, ◌<◌}
use mathlib.Core.Path.{◌≡◌, refl, sym}
use mathlib.Core.Bool.{Bool, true, false, ◌||◌, cond, not}
use lib.Dec.{eqb}
use lib.ListN.{replicate}
use borrow.Author.Rules.{rules}
use Rattle.rules.specs.Bytes.{between, one_of}
use Rattle.rules.specs.Codes.{is_code}
use Rattle.frame_laws.proofs.Tables.{at_place}
use Rattle.spe.proofs.codes.is_code.Goals as goal

tests : ℕ → Bool
tests c = between 0x01 0x11 c || eqb c 0x82 || eqb c 0x83 || eqb c 0x90

-- one test for every byte: whether the tests give the rule's answer
alike : Bool → Bool → Bool
alike a b = cond a b (not b)

alike_same : (a b : Bool) → alike a b ≡ true → a ≡ b
unfolding alike
alike_same true b e = sym e
alike_same false true e = cc
alike_same false false e = refl

right : ℕ → ℕ → Bool
right c x = alike (tests c) (is_code c)

codes_are : (c : ℕ) → c < 256 → tests c ≡ is_code c
unfolding right alike tests is_code one_of
codes_are c h = alike_same (tests c) (is_code c) (at_place right (replicate 256 0) refl c h)

pub returns : goal.returns
unfolding tests
returns c = codes_are c.args.c (search rules)
