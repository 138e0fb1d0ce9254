-- `vectors::panel::print_drained` goes on with the run until it is over, and ends: with each frame the reader holds fewer bytes.
-- Assumes nothing.
use Rattle.std.proofs.Common.{ℕ, false, List, [], arith, refl, subst}
use Rattle.stream_laws.proofs.Families.{goes_on}
use Rattle.vectors.specs.Courses.{all_closed, Comes, here}
use Rattle.vectors.proofs.Courses.{framed, frameless, is_ready, none_behind}
use Rattle.vectors.proofs.panel.print_drained.Goals as goal

pub loop-r-init : goal.loop-r-init
loop-r-init g c = here

pub loop-r-smaller : goal.loop-r-smaller
loop-r-smaller g c =
    let on = goes_on _ _ _ _ c.feed_lent.ensures (is_ready _ _ c.in-Some.ensures) in
    omega (arith, on.within, on.fewer)

pub loop-r-preserved : goal.loop-r-preserved
loop-r-preserved g c =
    let r = c.in-Some.r in
    let comes = framed _ _ _ _ all_closed [] _ c.loop-r.invariant refl (omega arith) refl c.feed_lent.ensures r c.in-Some.ensures in
    subst (λ (left : List ℕ). Comes c.args.reader.now all_closed c.feed_lent.new.reader (record { left = left; ends = 1; closes = false })) (none_behind r.taken) comes

pub returns : goal.returns
returns g c = frameless _ _ _ _ all_closed [] _ c.loop-r.invariant refl (omega arith) refl c.feed_lent.ensures c.in_default.ensures
