-- Where a field ends.
use Rattle.std.specs.Prelude.{ℕ, suc, cond, List, [], ◌∷◌, ◌==◌}
use Prim.Native.Char.{code}

-- how many bytes stand before the first comma
unfoldable pub to_comma : List ℕ → ℕ
to_comma [] = 0
to_comma (b ∷ bs) = cond (b == (code ",")) 0 (suc (to_comma bs))
