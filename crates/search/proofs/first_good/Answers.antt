-- What is left to show of `search::first_good`, with the invariants beside. Assumes nothing.
use Prim.Native.Nat.{ℕ, ◌+◌, ◌-◌, ◌≤◌, ◌<◌}
use mathlib.Core.Path.{◌≡◌, sym, ap, subst, ◌∙◌}
use mathlib.Core.List.{List}
use native.Mathlib.Decide.{dec_lt}
use native.Mathlib.Omega.{arith}
use lib.ListN.{length, take, drop}
use Rattle.rules.specs.Answers.{read_one}
use Rattle.rules.specs.declared.Frame.{Frame}
use Rattle.rules.specs.Answers.{Read}
use Rattle.stream_rules.specs.Heads.{Head, wait, good, head_of, head}
use Rattle.stream_rules.specs.Rule.{Look, by_look}
use Rattle.stream_laws.proofs.Families.{facts}
use Rattle.stream_laws.proofs.Starts.{NotGood, bad_not_good}
use Rattle.stream_laws.proofs.Walks.{Passed, nothing_passed, passes, first_good, none_left}
use Rattle.search.specs.Sought.{first_from, AtStop, Stops}
use Rattle.search.proofs.Stopping.{part_there, whole_there}
use Rattle.search.specs.declared.First.{First}
use Rattle.std.specs.Prelude.{Option, Some, None}
use Rattle.search.specs.declared.Stop.{Stop}
use Rattle.search.proofs.first_good.Goals as goal
use Rattle.search.proofs.first_good.Goals.{in_default, in-Some+in_default-read_frame}

-- what a look at the bytes says, as an answer
abbrev answer : ℕ → Look → Option First
answer from l = by_look l (λ k n f behind. Some (record { start = from + k; length = n; frame = f })) (λ k rest. None)

-- an undecided start is not good
wait_not_good : {h : Head} → h ≡ wait → NotGood h
wait_not_good e n f g = let z : ◌≡◌ {A = ℕ} 0 1 = cc in omega arith

module _ (family : ℕ) (s : List ℕ) (from at : ℕ) (passed : Passed (head family) s from at) where
  ready : (n : ℕ) (f : Frame) → head family (drop at s) ≡ good n f → Some (record { start = at; length = n; frame = f }) ≡ first_from family s from
  unfolding first_from
  ready n f here =
      ap (λ (k : ℕ). Some (record { start = k; length = n; frame = f })) (omega (arith, passed.on))
      ∙ ap (answer from) (sym (first_good (head family) s from at passed _ (facts family) n f here))

  ends : length s ≤ at → None ≡ first_from family s from
  unfolding first_from
  ends e = ap (answer from) (sym (none_left (head family) s from at passed (λ j on within. absurd (omega arith))))

  -- over a start that is not good, and over those before the next stop
  onward : NotGood (head family (drop at s)) → (far : ℕ) (q : Stop) → Stops family s (at + 1) far q → Passed (head family) s from q.at
  onward not_here far q next =
      let count : at + (q.at - at) ≡ q.at = omega (arith, next.walks.ahead) in
      subst (λ (k : ℕ). Passed (head family) s from k) count
      (passes (head family) s from at passed (q.at - at)
      (λ j low. elim (dec_lt at (at + j)) [
        | yes behind ↦ bad_not_good (next.walks.passes (at + j) (omega arith) (omega arith))
        | no here ↦ let same : at ≡ at + j = omega arith in rw (← same) not_here
      ]))

-- from the first stop on
first_stop : (family : ℕ) (s : List ℕ) (from far : ℕ) (q : Stop) → Stops family s from far q → Passed (head family) s from q.at
first_stop family s from far q next =
    let count : from + (q.at - from) ≡ q.at = omega (arith, next.walks.ahead) in
    subst (λ (k : ℕ). Passed (head family) s from k) count
    (passes (head family) s from from (nothing_passed (head family) s from) (q.at - from)
    (λ j low. bad_not_good (next.walks.passes (from + j) (omega arith) (omega arith))))

-- The stop that the walk has come to: where the reader of one frame is to decide,
module _ (family : ℕ) (s : List ℕ) (p : Stop) (found : AtStop family s p) where
  -- the frame's bytes are there,
  there : (n : ℕ) → p.length ≡ Some n → (0 < n) × (n ≤ length s - p.at)
  there n some = whole_there family s p.at n (found.whole n some)

  -- and it has read them.
  answered : (n : ℕ) → p.length ≡ Some n → (r : Read) → r ≡ read_one family (take (p.at + n - p.at) (drop p.at s)) → head family (drop p.at s) ≡ head_of n r
  answered n some r is = (found.whole n some).0 ∙ ap (head_of n) (sym (is ∙ ap (read_one family) (part_there family s p.at n)))

pub loop-stop-init : goal.loop-stop-init
loop-stop-init c = (first_stop _ _ _ _ _ c.next_stop-stop.ensures, c.next_stop-stop.ensures.found)

pub overflow_add-at : goal.overflow_add-at
overflow_add-at c = omega (arith, there _ _ _ c.loop-stop.invariant.1 _ c.in-Some.is)

pub slice_bounds-read_frame-end : goal.slice_bounds-read_frame-end
slice_bounds-read_frame-end c = omega (arith, there _ _ _ c.loop-stop.invariant.1 _ c.in-Some.is)

pub returns-in-Ok : goal.returns-in-Ok
returns-in-Ok c =
    ready _ _ _ _ c.loop-stop.invariant.0 _ _ (answered _ _ _ c.loop-stop.invariant.1 _ c.in-Some.is _ c.in-Ok.ensures.answers)

pub loop-stop-smaller : goal.loop-stop-smaller
loop-stop-smaller c = omega (arith, c.next_stop-stop-in-loop-stop.ensures.walks.ahead)

pub loop-stop-preserved : goal.loop-stop-preserved
loop-stop-preserved c =
    let next = c.next_stop-stop-in-loop-stop.ensures in
    let found = c.loop-stop.invariant.1 in (
      onward _ _ _ _ c.loop-stop.invariant.0
          (elim c.match-stop.branch [
            | in-Some+in_default-read_frame w ↦ bad_not_good (answered _ _ _ found _ w.in-Some.is _ w.in_default-read_frame.ensures.answers)
            | in_default w ↦ wait_not_good (found.waits w.in_default.is c.loop-stop-test.true)
          ])
          _ _ next,
      next.found,
    )

pub returns : goal.returns
returns c = ends _ _ _ _ c.loop-stop.invariant.0 c.loop-stop-test.false
