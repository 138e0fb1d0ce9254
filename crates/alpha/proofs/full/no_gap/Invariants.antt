-- `alpha::full::no_gap` meets its contract. The loop's invariant: what is found so far, with the bytes that are left, is
-- what is found of all of them. Assumes nothing.
use Rattle.std.proofs.Common.{◌≡◌, ◌&&◌, drop}
use Rattle.rules.specs.Bytes.{every}
use Rattle.alpha.specs.Payloads.{outside_gap}
use Rattle.alpha.proofs.full.no_gap.Given as goal

abbrev pub invariant-loop-b : goal.invariant-loop-b
invariant-loop-b l = l.good && every outside_gap (drop l.b-index l.p) ≡ every outside_gap l.p
