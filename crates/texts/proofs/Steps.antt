-- What a loop that walks a list by an index needs of the rest of the list: its first element and what is behind it, and
-- that nothing is left at the end.
-- Assumes nothing.
use Rattle.std.proofs.Common.{◌≡◌, ℕ, ◌+◌, ◌<◌, ◌≤◌, List, [], ◌∷◌, length, get_or, drop, sym, ap, ◌∙◌, add-one, drop_of_length-le, drop-cons}

-- the rest from i on begins with element i
pub at : (l : List ℕ) (i : ℕ) → i < length l → drop i l ≡ get_or l i 0 ∷ drop (i + 1) l
at l i h = drop-cons l i 0 h ∙ ap (λ (n : ℕ). get_or l i 0 ∷ drop n l) (sym (add-one i))

-- nothing is left at the end
pub done : (l : List ℕ) (i : ℕ) → length l ≤ i → drop i l ≡ []
done l i h = drop_of_length-le l h
