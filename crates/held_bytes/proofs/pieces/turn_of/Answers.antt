-- `held_bytes::pieces::turn_of` meets its contract: what the search has found is what the call says, and what is laid
-- into the places what it keeps.
-- Assumes nothing.
use Prim.Native.Nat.{ℕ, ◌+◌, ◌-◌, ◌≤◌}
use mathlib.Core.Path.{◌≡◌, refl, sym, ap, ◌∙◌}
use mathlib.Core.List.{List}
use native.Mathlib.Omega.{arith}
use lib.ListN.{length, take, drop, length-take}
use Rattle.stream_rules.specs.Heads.{head}
use Rattle.stream_rules.specs.Rule.{Call, gives, wants, call}
use Rattle.stream_rules.specs.Streams.{filled}
use Rattle.stream_rules.specs.declared.Reader.{Reader}
use Rattle.stream_laws.proofs.States.{longest_fits}
use Rattle.held_bytes.specs.Moves.{call_on, later}
use Rattle.held_bytes.proofs.Cutting.{Cuts, cut_waiting, cut_ready}
use Rattle.held_bytes.proofs.Opening.{opens_waiting, opens_ready}
use Rattle.held_bytes.proofs.pieces.turn_of.Goals as goal
use Rattle.held_bytes.proofs.pieces.turn_of.Goals.{In-Waiting, After-further-to}

-- what the call says where more is wanted, from a start on, and where a frame was found
waits : (c : In-Waiting)
    → let count = c.from-count.result in let all = length c.args.work.now in let from = c.in-Waiting.from in
    Cuts c.args.reader.now.family c.args.work.now count from all (wants (all - count) from)
waits c = cut_waiting _ c.args.work.now _ (omega (arith, c.requires.there)) (omega (arith, c.requires.low)) c.in-Waiting.from (sym c.in-Waiting.ensures)

finds : (c : After-further-to)
    → let count = c.from-count.result in let h = c.in-Ready.hit in let to = c.further-to.result in
    Cuts c.args.reader.now.family c.args.work.now count (h.start + h.length) to (gives (to - count) h.start h.length h.frame)
finds c =
    cut_ready _ c.args.work.now _ (omega (arith, c.requires.there)) (omega (arith, c.requires.low)) c.in-Ready.hit c.further-to.result (sym c.in-Ready.ensures)
    c.further-to.ensures

-- the bytes held are counted
on : (r : Reader) (work : List ℕ) (count : ℕ) → count ≡ r.count → call_on r work ≡ call (head r.family) (take count work) (drop count work)
on r work count e = ap (λ (n : ℕ). call (head r.family) (take n work) (drop n work)) (sym e)

-- what it keeps has room in the places
low : (family : ℕ) (work : List ℕ) (count from to : ℕ) (says : List ℕ → Call) → Cuts family work count from to says → to - from ≤ 133
low family work count from to says cut = omega (arith, cut.short, longest_fits family)

pub overflow_sub-left : goal.overflow_sub-left
overflow_sub-left c = (waits c).order

pub fill-requires : goal.fill-requires
fill-requires c =
    let from = c.in-Waiting.from in
    let left = length c.args.work.now - from in
    let room = low _ _ _ _ _ _ (waits (goal.at.fill-requires c).In-Waiting) in
    omega (arith, ap length c.text.ensures.content, length-take left (drop from c.args.work.now), room)

pub wants-requires : goal.wants-requires
wants-requires c = low _ _ _ _ _ _ (waits (goal.at.wants-requires c).In-Waiting)

pub overflow_add-behind : goal.overflow_add-behind
overflow_add-behind c =
    let family = c.args.reader.now.family in
    let cut = cut_ready family c.args.work.now c.from-count.result (omega (arith, c.requires.there)) (omega (arith, c.requires.low)) c.in-Ready.hit _ (sym c.in-Ready.ensures) refl in
    omega (arith, cut.order, cut.within, c.well_formed)

pub overflow_sub-left-in-Ready : goal.overflow_sub-left-in-Ready
overflow_sub-left-in-Ready c = (finds c).order

pub fill-requires-in-Ready : goal.fill-requires-in-Ready
fill-requires-in-Ready c =
    let behind = c.in-Ready.hit.start + c.in-Ready.hit.length in
    let room = low _ _ _ _ _ _ (finds (goal.at.fill-requires-in-Ready c).After-further-to) in
    omega (arith, ap length c.text-in-Ready.ensures.content, length-take (c.further-to.result - behind) (drop behind c.args.work.now), room)

pub overflow_add-taken-in-Ready : goal.overflow_add-taken-in-Ready
overflow_add-taken-in-Ready c = omega (arith, (finds (goal.at.overflow_add-taken-in-Ready c).After-further-to).within, c.requires.fits)

pub hand_out-requires : goal.hand_out-requires
hand_out-requires c =
    let cut = finds (goal.at.hand_out-requires c).After-further-to in
    (low _ _ _ _ _ _ cut, omega (arith, cut.order, cut.within, c.well_formed))

pub returns-in-Waiting : goal.returns-in-Waiting
returns-in-Waiting c =
    let cut = waits (goal.at.returns-in-Waiting c).In-Waiting in
    c.wants.ensures
    ∙ opens_waiting c.args.reader.now c.args.work.now _ _ cut.order cut.within _ _ (c.fill.ensures ∙ ap filled c.text.ensures.content) _ _
    (ap (later c.args.taken) (on c.args.reader.now c.args.work.now _ c.from-count.ensures ∙ cut.is))

pub returns-in-Ready : goal.returns-in-Ready
returns-in-Ready c =
    let cut = finds (goal.at.returns-in-Ready c).After-further-to in
    c.hand_out.ensures
    ∙ opens_ready c.args.reader.now c.args.work.now _ _ cut.order cut.within _ _ (c.fill-in-Ready.ensures ∙ ap filled c.text-in-Ready.ensures.content) _ _ _ _
    (ap (later c.args.taken) (on c.args.reader.now c.args.work.now _ c.from-count.ensures ∙ cut.is))
