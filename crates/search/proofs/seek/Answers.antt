-- What is left to show of `search::seek`, with the invariants beside. Assumes nothing.
use Prim.Native.Nat.{ℕ, ◌+◌, ◌-◌, ◌≤◌, ◌<◌}
use mathlib.Core.Path.{◌≡◌, sym, ap, ◌∙◌}
use mathlib.Core.List.{List}
use native.Mathlib.Omega.{arith}
use lib.ListN.{length, take, drop}
use Rattle.std.specs.Prelude.{Some}
use Rattle.rules.specs.Answers.{read_one}
use Rattle.rules.specs.Answers.{Read}
use Rattle.stream_rules.specs.Heads.{head_of}
use Rattle.search.specs.Sought.{Stops}
use Rattle.search.specs.declared.Stop.{Stop}
use Rattle.search.proofs.Stopping.{part_there, whole_there}
use Rattle.search.proofs.Searching.{ready, waiting, onward}
use Rattle.search.proofs.seek.Goals as goal

-- Where the reader of one frame is to decide,
module _ (family : ℕ) (s : List ℕ) (p : Stop) (stops : Stops family s 0 0 p) (n : ℕ) (some : p.length ≡ Some n) where
  -- the frame's bytes are there,
  there : (0 < n) × (n ≤ length s - p.at)
  there = whole_there family s p.at n (stops.found.whole n some)

-- and it has read them.
answered : (family : ℕ) (s : List ℕ) (at n : ℕ) (r : Read) → r ≡ read_one family (take (at + n - at) (drop at s))
    → head_of n (read_one family (take n (drop at s))) ≡ head_of n r
answered family s at n r is = ap (head_of n) (sym (is ∙ ap (read_one family) (part_there family s at n)))

pub overflow_add-at : goal.overflow_add-at
overflow_add-at c = omega (arith, there _ _ _ c.loop-stop.invariant _ c.in-Some.is)

pub slice_bounds-read_frame-end : goal.slice_bounds-read_frame-end
slice_bounds-read_frame-end c = omega (arith, there _ _ _ c.loop-stop.invariant _ c.in-Some.is)

pub overflow_add-at-in-Ok : goal.overflow_add-at-in-Ok
overflow_add-at-in-Ok c = omega (arith, there _ _ _ c.loop-stop.invariant _ c.in-Some.is)

pub returns-in-Ok : goal.returns-in-Ok
returns-in-Ok c =
    ready _ _ _ c.loop-stop.invariant _ _ _ ((c.loop-stop.invariant.found.whole _ c.in-Some.is).0 ∙ answered _ c.args.s.now c.loop-stop.stop.at _ _ c.in-Ok.ensures.answers)
    c.further.ensures

pub overflow_add-at-in-Some : goal.overflow_add-at-in-Some
overflow_add-at-in-Some c = omega (arith, there _ _ _ c.loop-stop.invariant _ c.in-Some.is)

pub overflow_add-at-in-Some-2 : goal.overflow_add-at-in-Some-2
overflow_add-at-in-Some-2 c = omega (arith, there _ _ _ c.loop-stop.invariant _ c.in-Some.is)

pub loop-stop-smaller : goal.loop-stop-smaller
loop-stop-smaller c = omega (arith, there _ _ _ c.loop-stop.invariant _ c.in-Some.is, c.next_stop-stop-in-Some.ensures.walks.ahead)

pub loop-stop-preserved : goal.loop-stop-preserved
loop-stop-preserved c =
    onward _ _ _ c.loop-stop.invariant _ c.in-Some.is (answered _ c.args.s.now c.loop-stop.stop.at _ _ c.in_default-read_frame.ensures.answers)
    _ c.further-in-Some.ensures _ c.next_stop-stop-in-Some.ensures

pub returns : goal.returns
returns c = waiting _ _ _ c.loop-stop.invariant c.in_default.is
