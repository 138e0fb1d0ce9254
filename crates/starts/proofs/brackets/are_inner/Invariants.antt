-- `starts::brackets::are_inner` meets its contract. The loop's invariant: the bytes before `at` are inner bytes. The
-- measure is what is left of the bytes.
-- Assumes nothing.
use Rattle.std.proofs.Common.{◌≡◌, ◌-◌, ◌≤◌, true, take}
use Rattle.rules.specs.Bytes.{every}
use Rattle.stream_rules.specs.Heads.{is_inner}
use Rattle.starts.proofs.brackets.are_inner.Given as goal

abbrev pub invariant-loop-at : goal.invariant-loop-at
invariant-loop-at l = (16 ≤ l.n) × (l.at ≤ l.n) × (every (is_inner l.k) (take l.at l.p) ≡ true)

abbrev pub decreases-loop-at : goal.decreases-loop-at
decreases-loop-at l = l.n - l.at
