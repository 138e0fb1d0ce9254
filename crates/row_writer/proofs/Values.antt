-- Values that fit all. Assumes nothing.
use mathlib.Core.Path.{◌≡◌, refl, ap}
use mathlib.Core.Bool.{Bool, ◌&&◌}
use mathlib.Core.List.{List, [], ◌∷◌}
use Rattle.std.specs.List.{list_all}
use Rattle.rules.specs.Bytes.{every}

pub every_all : {A : Type 0} (test : A → Bool) (xs : List A) → list_all test xs ≡ every test xs
unfolding every
every_all test [] = refl
every_all test (x ∷ xs) = ap (λ (b : Bool). test x && b) (every_all test xs)
