-- What is read of a text that is to be pairs of digits with marks between them: their numbers, from the first place on, or
-- nothing where it is none.
use Rattle.std.specs.Prelude.{ℕ, ◌≡◌, ◌≤◌, true, false, List, length, get_or, Option, Some, None}
use Rattle.rules.specs.Messages.{are_pairs, pair_at}

abbrev pub PairsIn : List ℕ → List ℕ → Option (List ℕ) → Type 0
PairsIn marks t None = are_pairs marks t ≡ false
PairsIn marks t (Some numbers) = (are_pairs marks t ≡ true) × ((k : ℕ) → k ≤ length marks → get_or numbers k 0 ≡ pair_at t k)
