-- `kpa::behind::pairs_of` meets its contract. The loop's invariant: the text is pairs with all marks exactly when it is, from the
-- k-th pair on, pairs with the marks from k on; and the first k numbers are those of its first k pairs.
-- Assumes nothing.
use Prim.Native.Nat.{ℕ, ◌*◌, ◌<◌}
use mathlib.Core.Path.{◌≡◌}
use mathlib.Core.List.{List}
use lib.ListN.{length, drop, get_or}
use Rattle.rules.specs.Messages.{are_pairs, pair_at}
use Rattle.kpa.proofs.behind.pairs_of.Given as goal

-- what has been read of a text before its k-th pair
pub record Read (marks t numbers : List ℕ) (k : ℕ) : Type 0 where
  pub so_far : are_pairs marks t ≡ are_pairs (drop k marks) (drop (3 * k) t)
  pub first : (j : ℕ) → j < k → get_or numbers j 0 ≡ pair_at t j
  pub places : length numbers ≡ 6

abbrev pub invariant-loop-k : goal.invariant-loop-k
invariant-loop-k l = Read l.marks l.t l.numbers l.k
