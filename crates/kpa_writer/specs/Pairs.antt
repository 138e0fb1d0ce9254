-- Numbers as pairs of digits in a text, as the writers lay them.
use Rattle.std.specs.Prelude.{ℕ, List, [], ◌∷◌, ◌++◌, take, drop}
use Rattle.rules.specs.Numbers.{with_zeros}

-- a text with pairs of digits in it, each with a mark behind it, and these numbers in their places; the marks stay
unfoldable pub pairs_over : List ℕ → List ℕ → List ℕ
pairs_over [] t = t
pairs_over (n ∷ ns) t = with_zeros 2 n ++ (take 1 (drop 2 t) ++ pairs_over ns (drop 3 t))
