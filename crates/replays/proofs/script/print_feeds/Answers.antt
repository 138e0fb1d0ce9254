-- `replays::script::print_feeds` ends: with each frame that is handed out, fewer bytes are held and left to offer.
-- Assumes nothing.
use Rattle.std.proofs.Common.{ℕ, arith, length-take, length-drop, Ok, ap, ◌∙◌, ◌≡◌}
use Rattle.stream_rules.specs.declared.Progress.TheVariants.{Ready}
use Rattle.stream_laws.proofs.Families.{goes_on}
use Rattle.replays.proofs.script.print_feeds.Goals as goal

pub slice_bounds-rest-count : goal.slice_bounds-rest-count
slice_bounds-rest-count g c =
    let answer = c.in-Ok-Ready.is in
    let ready : c.in-Ok-Ready.field-0 ≡ Ready c.in-Ok-Ready.r = rw answer at c.in-Ok-Ready.field-0-is in
    (goes_on _ _ _ _ c.feed-fed.ensures (answer ∙ ap Ok ready)).within

pub slice_bounds-rest-start : goal.slice_bounds-rest-start
slice_bounds-rest-start g c =
    let answer = c.in-Ok-Ready.is in
    let ready : c.in-Ok-Ready.field-0 ≡ Ready c.in-Ok-Ready.r = rw answer at c.in-Ok-Ready.field-0-is in
    (goes_on _ _ _ _ c.feed-fed.ensures (answer ∙ ap Ok ready)).within

pub loop-r-smaller : goal.loop-r-smaller
loop-r-smaller g c =
    let answer = c.in-Ok-Ready.is in
    let ready : c.in-Ok-Ready.field-0 ≡ Ready c.in-Ok-Ready.r = rw answer at c.in-Ok-Ready.field-0-is in
    let on = goes_on _ _ _ _ c.feed-fed.ensures (answer ∙ ap Ok ready) in
    omega (arith, on.within, on.fewer, length-take {A = ℕ}, length-drop {A = ℕ})
