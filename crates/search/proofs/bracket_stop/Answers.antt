-- What is left to show of `search::bracket_stop`, with the invariants beside. Assumes nothing.
use Prim.Native.Nat.{ℕ, ◌+◌, ◌-◌, ◌≤◌, ◌<◌}
use mathlib.Core.Path.{◌≡◌, sym, ap, ◌∙◌}
use mathlib.Core.List.{List}
use native.Mathlib.Nat.{add-zero}
use native.Mathlib.Omega.{arith}
use lib.ListN.{length, take, drop, get_or, length-drop}
use lib.Seq.{get_or-drop}
use Rattle.stream_rules.specs.Heads.{brackets_of, wait, head}
use Rattle.stream_rules.specs.declared.Brackets.{Brackets}
use Rattle.stream_laws.proofs.Lists.{whole_rest}
use Rattle.stream_laws.proofs.Runs.{run, run_inside}
use Rattle.stream_laws.proofs.Bracketed.{Bracketed, bracketed}
use Rattle.search.specs.Seen.{seen}
use Rattle.search.specs.declared.heads.Seen.TheVariants.{Whole, Bad, Undecided}
use Rattle.search.specs.Sought.{Walks}
use Rattle.search.proofs.Seeing.{seen_whole, seen_bad, seen_undecided, bad_behind}
use Rattle.search.proofs.Passing.{SettledBy, unopened, in_the_run}
use Rattle.search.proofs.Stopping.{WholeAt, begins, passes_over, stops_waiting, stops_at_end, stops_to_read}
use Rattle.search.proofs.bracket_stop.Goals as goal

-- a bad start: the byte that settled it is behind the run, or in it
record Broken (family : ℕ) (bytes : List ℕ) (at d : ℕ) : Type 0 where
  settles : SettledBy family (drop at bytes) d
  some : 2 ≤ d
  run_there : d ≤ run (brackets_of family) (drop at bytes) + 2
  inside : run (brackets_of family) (drop at bytes) < length bytes - at

-- The family, the bytes, and the start that the walk has come to. A call is lent the bytes from there on.
module _ (family : ℕ) (is : Bracketed family) (bytes : List ℕ) (at : ℕ) where
  abbrev here : List ℕ
  here = drop at bytes

  abbrev lent : List ℕ
  lent = take (length bytes - at) here

  same : seen family lent ≡ seen family here
  same = ap (seen family) (whole_rest bytes at)

  to_read : (n : ℕ) → Whole n ≡ seen family lent → WholeAt family bytes at n
  to_read n saw = seen_whole family here n (sym (saw ∙ same))

  undecided : Undecided ≡ seen family lent → head family here ≡ wait
  undecided saw = seen_undecided family here (sym (saw ∙ same))

  broken : (k : Brackets) → k ≡ brackets_of family → at < length bytes → get_or bytes at 0 ≡ k.opening → (d : ℕ) → Bad d ≡ seen family lent → Broken family bytes at d
  broken k its there opens d saw =
      let long = length-drop at bytes in
      let some_here : 0 < length here = omega (arith, long) in
      let at_front = get_or-drop at bytes 0 0 ∙ ap (λ (i : ℕ). get_or bytes i 0) (add-zero at) in
      let behind = bad_behind family is here some_here (at_front ∙ opens ∙ ap (λ (b : Brackets). b.opening) its) d (sym (saw ∙ same)) in
      record {
        settles = seen_bad family here d (sym (saw ∙ same));
        some = behind.0;
        run_there = behind.1;
        inside = omega (arith, run_inside (brackets_of family) here some_here, long);
      }

-- the walk goes on over the bytes before the one that settled a bad start
passed : (family : ℕ) (is : Bracketed family) (bytes : List ℕ) (from far at d : ℕ) → Walks family bytes from far at far → at < length bytes → Broken family bytes at d
    → Walks family bytes from far (at + (d - 1)) far
passed family is bytes from far at d walk there b =
    passes_over family bytes from far at far (d - 1) walk (omega (arith, b.run_there, b.inside, b.some)) (b.settles.0, omega (arith, b.settles.1, b.some))
    (λ j p q.
    let h = in_the_run family is (drop at bytes) j p (omega (arith, b.run_there)) in
    (h.0, omega (arith, h.1)))

pub loop-at-init : goal.loop-at-init
loop-at-init c = begins _ _ _ _

pub loop-at-preserved-then-s-at : goal.loop-at-preserved-then-s-at
loop-at-preserved-then-s-at c =
    let bad_here =
    unopened c.args.family (bracketed _ c.requires) c.args.s.now c.loop-at.at (omega arith)
    (λ e. c.if-s-at.true (e ∙ sym (ap (λ (b : Brackets). b.opening) c.brackets_of-k.ensures))) in
    passes_over _ _ _ _ _ _ 1 c.loop-at.invariant (omega arith) (bad_here.0, omega (arith, bad_here.1)) (λ j p q. absurd (omega arith))

pub returns-in-Whole : goal.returns-in-Whole
returns-in-Whole c = stops_to_read _ _ _ _ _ _ _ c.loop-at.invariant (to_read c.args.family (bracketed _ c.requires) c.args.s.now c.loop-at.at _ c.in-Whole.ensures)

pub returns-in-Undecided : goal.returns-in-Undecided
returns-in-Undecided c = stops_waiting _ _ _ _ _ _ c.loop-at.invariant (undecided c.args.family (bracketed _ c.requires) c.args.s.now c.loop-at.at c.in-Undecided.ensures)

pub overflow_sub-at : goal.overflow_sub-at
overflow_sub-at c =
    let b = broken c.args.family (bracketed _ c.requires) c.args.s.now c.loop-at.at _ c.brackets_of-k.ensures (omega arith) c.if-s-at.false _ c.in-Bad.ensures in
    omega (arith, b.some)

pub overflow_add-at-in-Bad : goal.overflow_add-at-in-Bad
overflow_add-at-in-Bad c =
    let b = broken c.args.family (bracketed _ c.requires) c.args.s.now c.loop-at.at _ c.brackets_of-k.ensures (omega arith) c.if-s-at.false _ c.in-Bad.ensures in
    omega (arith, b.run_there, b.inside)

pub loop-at-smaller : goal.loop-at-smaller
loop-at-smaller c =
    let b = broken c.args.family (bracketed _ c.requires) c.args.s.now c.loop-at.at _ c.brackets_of-k.ensures (omega arith) c.if-s-at.false _ c.in-Bad.ensures in
    omega (arith, b.some)

pub loop-at-preserved : goal.loop-at-preserved
loop-at-preserved c =
    passed _ (bracketed _ c.requires) _ _ _ _ _ c.loop-at.invariant (omega arith)
    (broken c.args.family (bracketed _ c.requires) c.args.s.now c.loop-at.at _ c.brackets_of-k.ensures (omega arith) c.if-s-at.false _ c.in-Bad.ensures)

pub returns-after-loop-at : goal.returns-after-loop-at
returns-after-loop-at c = stops_at_end _ _ _ _ _ _ c.loop-at.invariant (omega arith)
