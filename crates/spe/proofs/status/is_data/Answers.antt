-- `spe::status::is_data` meets its contract: on 67 bytes its tests are the rules of the fields.
-- Assumes nothing.
use Prim.Native.Nat.{ℕ}
use mathlib.Core.Path.{◌≡◌, sym, ap, ◌∙◌}
use mathlib.Core.Bool.{Bool, true, false, ◌&&◌}
use mathlib.Core.List.{List}
use lib.ListN.{length}
use Rattle.rules.specs.Status.{joined}
use Rattle.texts.specs.Parts.{in_bounds}
use Rattle.spe.specs.ReportTests.{all_follow, letters_good, limits_good, data_good}
use Rattle.spe.proofs.ReportData.{leasts, mosts, marks, data_alike}
use Rattle.spe.proofs.status.is_data.Goals as goal

-- the tests in their order, from that of the bounds on
is_bounded : (d : List ℕ) (b : Bool) → length d ≡ 67 → in_bounds (joined leasts) (joined mosts) d ≡ b
    → data_good d ≡ (b && letters_good d && all_follow marks d && limits_good d)
unfolding data_good
is_bounded d b size e = data_alike d size ∙ ap (λ x. x && letters_good d && all_follow marks d && limits_good d) e

pub returns-then-not-within : goal.returns-then-not-within
unfolding joined
returns-then-not-within c = sym (is_bounded _ false c.requires (sym c.within.ensures ∙ c.if-not-within.true))

pub returns : goal.returns
unfolding joined
returns c =
    (λ i. c.letters.ensures i && c.spaces.ensures i && c.limits.ensures i)
    ∙ sym (is_bounded _ true c.requires (sym c.within.ensures ∙ c.if-not-within.false))
