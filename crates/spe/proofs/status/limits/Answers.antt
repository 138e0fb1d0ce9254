-- `spe::status::limits` meets its contract: the ID's first digit picks the limits, and the tests are theirs.
-- Assumes nothing.
use Prim.Native.Nat.{ℕ}
use mathlib.Core.Path.{◌≡◌, sym, ap, ◌∙◌}
use mathlib.Core.Bool.{Bool, true, false, ◌&&◌, ◌||◌, cond, or-false, and_assoc, and-true}
use mathlib.Core.List.{List}
use borrow.Author.Tests.{eq-eqb, ne_eqb}
use lib.Dec.{eqb, leb}
use lib.ListN.{length, get_or}
use Rattle.rules.specs.Bytes.{ascii, one_of, every}
use Rattle.frame_laws.proofs.Bytes.{one_by_one, places}
use Rattle.spe.specs.ReportTests.{limits20_k, limits13_k, limits_good}
use Rattle.spe.proofs.status.limits.Goals as goal

module _ (d : List ℕ) (size : length d ≡ 67) where
  abbrev x : ℕ → ℕ
  x i = get_or d i 0

  abbrev tests20_k : Bool
  tests20_k = eqb (x 2) 48 && eqb (x 9) 120 && (eqb (x 13) 48 || leb (x 14) 48)

  abbrev tests13_k : Bool
  tests13_k =
      eqb (x 2) 51 && one_of (ascii "AB") (x 9) && (eqb (x 13) 48 || leb (x 14) 49) && leb (x 16) 52 && leb (x 19) 52
      && leb (x 55) 48 && leb (x 56) 48 && leb (x 57) 48 && leb (x 59) 48 && leb (x 60) 48 && leb (x 61) 48

  tests_are : (big : Bool) → cond big tests20_k tests13_k ≡ cond big (limits20_k (places 0 67 0 d)) (limits13_k (places 0 67 0 d))
  unfolding one_of every
  tests_are true = simp or-false
  tests_are false = simp (or-false, and_assoc, and-true)

  limits_are : (big : Bool) → eqb (x 1) 50 ≡ big → cond big tests20_k tests13_k ≡ limits_good d
  unfolding limits_good
  limits_are big e =
      tests_are big
      ∙ ap (λ b. cond b (limits20_k (places 0 67 0 d)) (limits13_k (places 0 67 0 d))) (sym e)
      ∙ ap limits_good (one_by_one 0 67 d size)

pub returns-then-d-eq50 : goal.returns-then-d-eq50
returns-then-d-eq50 c =
    limits_are c.args.d.now c.requires true (eq-eqb _ 50 c.if-d-eq50.true)

pub returns : goal.returns
returns c = rw c.one_of.ensures (limits_are c.args.d.now c.requires false (ne_eqb _ 50 c.if-d-eq50.false))
