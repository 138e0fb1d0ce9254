-- What `needed` says of the bytes that a start needs: they are some, or the count is not there or not allowed.
-- By the test of the definition. Assumes nothing.
use Rattle.std.proofs.Common.{◌≡◌, ℕ, ◌<◌, Bool, true, false, cond, eqb, List, Some, None, refl, arith, eqb-true}
use Rattle.std.proofs.lemmas.Bool.{eqb-false}
use Rattle.stream_rules.specs.Heads.{needs}
use Rattle.starts.specs.Needed.{needed}

module _ (family : ℕ) (bs : List ℕ) where
  pub needed_some : (n : ℕ) → Some n ≡ needed family bs → (n ≡ needs family bs) × (0 < n)
  needed_some n e = by (eqb (needs family bs) 0) refl e
    where
      by : (b : Bool) → eqb (needs family bs) 0 ≡ b → Some n ≡ cond b None (Some (needs family bs)) → (n ≡ needs family bs) × (0 < n)
      by true is p = let z : ◌≡◌ {A = ℕ} 0 1 = cc in absurd (omega arith)
      by false is p = let same : n ≡ needs family bs = cc in (same, omega (arith, same, eqb-false _ _ is))

  pub needed_none : None ≡ needed family bs → needs family bs ≡ 0
  needed_none e = by (eqb (needs family bs) 0) refl e
    where
      by : (b : Bool) → eqb (needs family bs) 0 ≡ b → None ≡ cond b None (Some (needs family bs)) → needs family bs ≡ 0
      by true is p = eqb-true _ _ is
      by false is p = let z : ◌≡◌ {A = ℕ} 0 1 = cc in absurd (omega arith)
