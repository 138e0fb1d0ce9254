-- What is left to show of `lister::lists::fill`, with the invariants beside: what a step says, the list is filled by.
-- Assumes nothing.
use native.Mathlib.Omega.{arith}
use Rattle.lister.proofs.Filling.{passed, inside, some_bytes, filled_in, ends}
use Rattle.lister.proofs.lists.fill.Goals as goal

pub overflow_add-at : goal.overflow_add-at
overflow_add-at g c =
    let step = c.requires.steps c.loop-at.at _ (omega arith) c.in-Frame.ensures in
    omega (arith, inside _ _ _ _ _ _ c.loop-at.invariant _ step)

pub loop-at-smaller : goal.loop-at-smaller
loop-at-smaller g c =
    let step = c.requires.steps c.loop-at.at _ (omega arith) c.in-Frame.ensures in
    omega (arith, inside _ _ _ _ _ _ c.loop-at.invariant _ step, some_bytes _ _ _ _ _ _ c.loop-at.invariant _ step)

pub loop-at-preserved : goal.loop-at-preserved
loop-at-preserved g c =
    let step = c.requires.steps c.loop-at.at _ (omega arith) c.in-Frame.ensures in
    rw c.note.ensures (filled_in _ _ _ _ _ _ c.loop-at.invariant _ step)

pub loop-at-preserved-in-Over : goal.loop-at-preserved-in-Over
loop-at-preserved-in-Over g c =
    let step = c.requires.steps c.loop-at.at _ (omega arith) c.in-Over.ensures in
    passed _ _ _ _ _ _ c.loop-at.invariant _ step.1

pub returns : goal.returns
returns g c = ends _ _ _ _ _ _ c.loop-at.invariant (omega (arith, c.loop-at-test.false, c.saturating_sub-end.ensures, c.shortest_frame.ensures))
