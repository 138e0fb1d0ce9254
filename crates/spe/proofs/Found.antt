-- What a value that was found tells of the test before it, and one that was not found; and the same of a refusal in its place.
-- By cases on the test. Assumes nothing.
use Rattle.std.specs.Prelude.{Ok, Err, Some, None}
use Rattle.std.specs.Bool.{then_some}
use Rattle.std.specs.Option.{is_some, ok_or}
use mathlib.Core.Path.{◌≡◌, refl}
use mathlib.Core.Bool.{Bool, true, false}

module _ {A : Type 0} where
  pub found : (test : Bool) (x y : A) → Some y ≡ then_some test x → (test ≡ true) × (x ≡ y)
  found true x y e = (refl, cc)
  found false x y e = cc

  pub not_found : (test : Bool) (x : A) → None ≡ then_some test x → test ≡ false
  not_found true x e = cc
  not_found false x e = refl

  pub taken : {E : Type 0} (test : Bool) (x y : A) (e : E) → ok_or (then_some test x) e ≡ Ok y → (test ≡ true) × (x ≡ y)
  taken true x y e h = (refl, cc)
  taken false x y e h = cc

  pub refused : {E : Type 0} (test : Bool) (x : A) (e d : E) → ok_or (then_some test x) e ≡ Err d → (test ≡ false) × (e ≡ d)
  refused true x e d h = cc
  refused false x e d h = (refl, cc)

  pub found_if : (test : Bool) (x : A) → is_some (then_some test x) ≡ test
  found_if true x = refl
  found_if false x = refl
