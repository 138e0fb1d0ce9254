-- `held_bytes::is_clear` meets its contract. The loop's invariant: where nothing was seen, the places looked at are zero.
-- Assumes nothing.
use Prim.Native.Nat.{ℕ, ◌<◌}
use mathlib.Core.Path.{◌≡◌}
use lib.ListN.{get_or}
use Rattle.held_bytes.proofs.is_clear.Given as goal

abbrev pub invariant-loop-place : goal.invariant-loop-place
invariant-loop-place l = l.seen ≡ 0 → (k : ℕ) → k < l.place-index → get_or l.places k 0 ≡ 0
