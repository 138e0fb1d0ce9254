-- Where the part stands that a leaf gives back, and bytes that keep their bounds.
use Rattle.std.specs.Prelude.{ℕ, Bool, true, false, cond, ◌&&◌, List, [], ◌∷◌, length, nat_lt}
use Rattle.rules.specs.Bytes.{between}

-- where a part from place a on stands: at the front where a is past the end
abbrev pub place_in : ℕ → List ℕ → ℕ
place_in a s = cond (nat_lt a (length s)) a 0

-- each byte is from the least to the most for its place; a byte without bounds is not
unfoldable pub in_bounds : List ℕ → List ℕ → List ℕ → Bool
in_bounds least most [] = true
in_bounds [] most (b ∷ bs) = false
in_bounds (a ∷ least) [] (b ∷ bs) = false
in_bounds (a ∷ least) (z ∷ most) (b ∷ bs) = between a z b && in_bounds least most bs
