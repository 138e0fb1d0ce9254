-- What is left to show of `search::packet_stop`, with the invariants beside. Assumes nothing.
use Prim.Native.Nat.{ℕ, ◌+◌, ◌-◌, ◌≤◌, ◌<◌}
use mathlib.Core.Path.{◌≡◌, sym, ap, subst, ◌∙◌}
use mathlib.Core.Bool.{true, false}
use mathlib.Core.List.{List}
use native.Mathlib.Decide.{dec_lt}
use native.Mathlib.Omega.{arith}
use lib.ListN.{length, take, drop, get_or, length-drop}
use Rattle.rules.specs.Answers.{is_good, read_one}
use Rattle.stream_rules.specs.Heads.{is_spe, mark_of, wait, head}
use Rattle.stream_laws.proofs.Lists.{whole_rest}
use Rattle.search.specs.Seen.{seen}
use Rattle.search.specs.declared.heads.Seen.TheVariants.{Whole, Bad, Undecided}
use Rattle.search.proofs.Seeing.{seen_whole, seen_bad, seen_undecided, bad_soon, whole_length}
use Rattle.search.specs.Sought.{Walks}
use Rattle.search.proofs.Passing.{SettledBy, BadBy, mark_is_no_count, behind_no_mark}
use Rattle.search.proofs.Soon.{not_good}
use Rattle.search.proofs.Stopping.{WholeAt, part_there, begins, passes_over, passes_unmarked, counts_and_passes}
use Rattle.search.proofs.Stopping.{whole_there, refused_whole, stops_waiting, stops_at_end, stops_to_read}
use Rattle.search.proofs.packet_stop.Goals as goal

-- The family, its mark, the bytes, and the start that the walk has come to. A call is lent the bytes from there on.
module _ (family : ℕ) (spe : is_spe family ≡ true) (mark : ℕ) (is_mark : mark ≡ mark_of family) (bytes : List ℕ) (at : ℕ) where
  abbrev here : List ℕ
  here = drop at bytes

  abbrev lent : List ℕ
  lent = take (length bytes - at) here

  same : lent ≡ here
  same = whole_rest bytes at

  -- a mark for the count: a bad start
  marked : (4 ≤ length lent) × (get_or lent 3 0 ≡ mark) → BadBy family here 4
  marked stands =
      let found = subst (λ (l : List ℕ). (4 ≤ length l) × (get_or l 3 0 ≡ mark)) same stands in
      mark_is_no_count family spe here found.0 (found.1 ∙ is_mark)

  -- none: no frame starts at the next three either
  behind : (4 ≤ length lent → get_or lent 3 0 ≡ mark → ⊥) → 4 ≤ length bytes - at → (j : ℕ) → 0 < j → j < 4 → BadBy family (drop j here) (4 - j)
  behind stands_not there =
      let long : 4 ≤ length here = omega (arith, there, length-drop at bytes) in
      let other = subst (λ (l : List ℕ). 4 ≤ length l → get_or l 3 0 ≡ mark → ⊥) same stands_not long in
      behind_no_mark family spe here long (λ e. other (e ∙ sym is_mark))

  -- As many bytes as a frame there has:
  module _ (n : ℕ) (saw : Whole n ≡ seen family lent) where
    to_read : WholeAt family bytes at n
    to_read = seen_whole family here n (sym (saw ∙ ap (seen family) same))

    enough : (6 ≤ n) × (n ≤ length bytes - at)
    enough =
        let there = whole_there family bytes at n to_read in
        (whole_length family spe here n there.0 (sym (saw ∙ ap (seen family) same)), there.1)

    -- of which it was said that they are no good frame.
    refused : is_good (read_one family (take (at + n - at) here)) ≡ false → SettledBy family here n
    refused out =
        refused_whole family bytes at n to_read
        (not_good (read_one family (take n here)) (subst (λ (l : List ℕ). is_good (read_one family l) ≡ false) (part_there family bytes at n) out) n)

  -- Or an undecided one,
  undecided : Undecided ≡ seen family lent → head family here ≡ wait
  undecided saw = seen_undecided family here (sym (saw ∙ ap (seen family) same))

  -- or a bad start,
  broken : (d : ℕ) → Bad d ≡ seen family lent → BadBy family here 4
  broken d saw =
      let is = sym (saw ∙ ap (seen family) same) in
      let h = seen_bad family here d is in
      (h.0, omega (arith, h.1, bad_soon family spe here d is))

-- with which one start is passed, or four.
step : (left k : ℕ) → 0 < left → (4 ≤ left → k ≡ 4) × (left < 4 → k ≡ 1) → (0 < k) × (k ≤ left)
step left k some passed =
    elim (dec_lt left 4) [
      | yes few ↦ let one = passed.1 few in (omega (arith, one), omega (arith, one))
      | no more ↦ let four = passed.0 (omega arith) in (omega (arith, four), omega (arith, four))
    ]

stepped : (family : ℕ) (bytes : List ℕ) (from far at reach k : ℕ) → Walks family bytes from far at reach → at < length bytes
    → (4 ≤ length bytes - at → k ≡ 4) × (length bytes - at < 4 → k ≡ 1) → BadBy family (drop at bytes) 4
    → (4 ≤ length bytes - at → (j : ℕ) → 0 < j → j < 4 → BadBy family (drop j (drop at bytes)) (4 - j)) → Walks family bytes from far (at + k) reach
stepped family bytes from far at reach k walk there passed bad_here behind =
    let few = step (length bytes - at) k (omega arith) passed in
    passes_over family bytes from far at reach k walk (omega (arith, few)) (bad_here.0, omega (arith, bad_here.1, few.0))
    (λ j p q.
    elim (dec_lt (length bytes - at) 4) [
      | yes one ↦ absurd (omega (arith, passed.1 one))
      | no some ↦
          let four = passed.0 (omega arith) in
          let h = behind (omega arith) j p (omega (arith, four)) in
          (h.0, omega (arith, h.1))
    ])

pub loop-at-init : goal.loop-at-init
loop-at-init c = begins _ _ _ _

pub loop-at-preserved-then-mark_for_count : goal.loop-at-preserved-then-mark_for_count
loop-at-preserved-then-mark_for_count c =
    let bad_here = marked c.args.family c.requires _ c.mark_of-mark.ensures c.args.s.now c.loop-at.at (c.mark_for_count.ensures.there c.if-mark_for_count.true) in
    passes_over _ _ _ _ _ _ 1 c.loop-at.invariant (omega arith) (bad_here.0, omega (arith, bad_here.1)) (λ j p q. absurd (omega arith))

pub overflow_add-at-in-Whole : goal.overflow_add-at-in-Whole
overflow_add-at-in-Whole c = omega (arith, enough c.args.family c.requires _ c.mark_of-mark.ensures c.args.s.now c.loop-at.at _ c.in-Whole.ensures)

pub slice_bounds-ruled_out-end : goal.slice_bounds-ruled_out-end
slice_bounds-ruled_out-end c = omega (arith, enough c.args.family c.requires _ c.mark_of-mark.ensures c.args.s.now c.loop-at.at _ c.in-Whole.ensures)

pub returns-then-not-ruled_out : goal.returns-then-not-ruled_out
returns-then-not-ruled_out c =
    stops_to_read _ _ _ _ _ _ _ c.loop-at.invariant (to_read c.args.family c.requires _ c.mark_of-mark.ensures c.args.s.now c.loop-at.at _ c.in-Whole.ensures)

pub overflow_add-at-in-Whole-2 : goal.overflow_add-at-in-Whole-2
overflow_add-at-in-Whole-2 c = omega (arith, enough c.args.family c.requires _ c.mark_of-mark.ensures c.args.s.now c.loop-at.at _ c.in-Whole.ensures)

pub overflow_add-at-in-Whole-3 : goal.overflow_add-at-in-Whole-3
overflow_add-at-in-Whole-3 c = omega (arith, enough c.args.family c.requires _ c.mark_of-mark.ensures c.args.s.now c.loop-at.at _ c.in-Whole.ensures)

pub loop-at-smaller-in-Whole : goal.loop-at-smaller-in-Whole
loop-at-smaller-in-Whole c = omega (arith, enough c.args.family c.requires _ c.mark_of-mark.ensures c.args.s.now c.loop-at.at _ c.in-Whole.ensures)

pub loop-at-preserved-in-Whole : goal.loop-at-preserved-in-Whole
loop-at-preserved-in-Whole c =
    let long = enough c.args.family c.requires _ c.mark_of-mark.ensures c.args.s.now c.loop-at.at _ c.in-Whole.ensures in
    counts_and_passes _ _ _ _ _ _ _ _ 3 c.loop-at.invariant
    (omega (arith, long))
    (refused c.args.family c.requires _ c.mark_of-mark.ensures c.args.s.now c.loop-at.at _ c.in-Whole.ensures (c.ruled_out.ensures c.if-not-ruled_out.false))
    c.further-reach.ensures
    (λ j p q.
    let h =
    behind c.args.family c.requires _ c.mark_of-mark.ensures c.args.s.now c.loop-at.at (c.mark_for_count.ensures.not_there c.if-mark_for_count.false)
    (omega (arith, long)) j p q in
    (h.0, omega (arith, h.1)))

pub returns-in-Undecided : goal.returns-in-Undecided
returns-in-Undecided c =
    stops_waiting _ _ _ _ _ _ c.loop-at.invariant (undecided c.args.family c.requires _ c.mark_of-mark.ensures c.args.s.now c.loop-at.at c.in-Undecided.ensures)

pub overflow_add-at-in-loop-at : goal.overflow_add-at-in-loop-at
overflow_add-at-in-loop-at c = omega (arith, step (length c.args.s.now - c.loop-at.at) _ (omega arith) c.passed_with.ensures)

pub past_unmarked-at-requires : goal.past_unmarked-at-requires
past_unmarked-at-requires c = omega (arith, step (length c.args.s.now - c.loop-at.at) _ (omega arith) c.passed_with.ensures)

pub loop-at-smaller : goal.loop-at-smaller
loop-at-smaller c = omega (arith, step (length c.args.s.now - c.loop-at.at) _ (omega arith) c.passed_with.ensures, c.past_unmarked-at.ensures.0, c.past_unmarked-at.ensures.1)

pub loop-at-preserved : goal.loop-at-preserved
loop-at-preserved c =
    let past = c.past_unmarked-at.ensures in
    passes_unmarked _ _ c.requires _ _ _ _ _
    (stepped _ _ _ _ _ _ _ c.loop-at.invariant (omega arith) c.passed_with.ensures
    (broken c.args.family c.requires _ c.mark_of-mark.ensures c.args.s.now c.loop-at.at _ c.in-Bad.ensures)
    (behind c.args.family c.requires _ c.mark_of-mark.ensures c.args.s.now c.loop-at.at (c.mark_for_count.ensures.not_there c.if-mark_for_count.false)))
    past.0 past.1 (λ j p q e. past.2 j p q (e ∙ sym c.mark_of-mark.ensures))

pub returns-after-loop-at : goal.returns-after-loop-at
returns-after-loop-at c = stops_at_end _ _ _ _ _ _ c.loop-at.invariant (omega arith)
