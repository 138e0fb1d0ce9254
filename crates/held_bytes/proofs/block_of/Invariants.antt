-- `held_bytes::block_of` meets its contract. The loop's invariant: the first i bytes are copied in from the front on.
-- Assumes nothing.
use Rattle.std.proofs.Common.{◌≡◌, ◌++◌, take, drop}
use Rattle.held_bytes.proofs.block_of.Given as goal

abbrev pub invariant-loop-i : goal.invariant-loop-i
invariant-loop-i l = l.block ≡ take l.i l.few ++ drop l.i l.initial.block
