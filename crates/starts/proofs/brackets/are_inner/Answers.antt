-- What is left to show of `starts::brackets::are_inner`, with the invariants beside. Assumes nothing.
use Rattle.std.proofs.Common.{◌≡◌, ℕ, ◌+◌, ◌-◌, ◌≤◌, true, false, eqb, List, [], length, take, drop, sym, refl, ap, ◌∙◌, arith, take-append-drop, drop-drop, take-add, eq-eqb, eqb-true}
use mathlib.Core.Bool.{false≢true}
use Rattle.rules.specs.Bytes.{every}
use Rattle.frame_laws.proofs.Bytes.{alike, every_append, every_take, every_drop}
use Rattle.stream_rules.specs.Heads.{is_inner}
use Rattle.stream_rules.specs.declared.Brackets.{Brackets}
use Rattle.stream_laws.proofs.Lists.{whole_rest}
use Rattle.stream_laws.proofs.Runs.{all_run, run_all}
use Rattle.starts.proofs.brackets.are_inner.Goals as goal

empty : (k : Brackets) → every (is_inner k) [] ≡ true
unfolding every
empty k = refl

-- where the bytes before a place are inner bytes, all are if those from an earlier place on are
rest_tells : (k : Brackets) (p : List ℕ) (j at : ℕ) → j ≤ at → every (is_inner k) (take at p) ≡ true → every (is_inner k) (drop j p) ≡ every (is_inner k) p
rest_tells k p j at low front =
    alike _ _
    (λ rest.
    let same : j + (at - j) ≡ at = omega arith in
    let behind : every (is_inner k) (drop at p) ≡ true = rw (← same) (ap (every (is_inner k)) (sym (drop-drop (at - j) j p)) ∙ every_drop (is_inner k) (at - j) (drop j p) rest) in
    ap (every (is_inner k)) (sym (take-append-drop at p)) ∙ every_append (is_inner k) (take at p) (drop at p) front behind)
    (λ all. every_drop (is_inner k) j p all)

pub returns-then-n-lt16 : goal.returns-then-n-lt16
returns-then-n-lt16 c =
    let k = c.args.k in
    let p = c.args.p.now in
    ap (λ (j : ℕ). eqb j (length p)) c.run_by_bytes.ensures ∙ alike _ _ (λ e. all_run k p (eqb-true _ _ e)) (λ good. eq-eqb _ _ (run_all k p good))

pub loop-at-init : goal.loop-at-init
loop-at-init c = (omega arith, omega arith, empty c.args.k)

pub returns-then-not-all_inner : goal.returns-then-not-all_inner
returns-then-not-all_inner c =
    let k = c.args.k in
    let p = c.args.p.now in
    let at = c.loop-at.at in
    alike false _ (λ e. absurd (false≢true e))
    (λ all. sym c.if-not-all_inner.true ∙ c.all_inner.ensures ∙ every_take (is_inner k) (at + 16 - at) (drop at p) (every_drop (is_inner k) at p all))

pub loop-at-preserved : goal.loop-at-preserved
loop-at-preserved c =
    let k = c.args.k in
    let p = c.args.p.now in
    let loop = c.loop-at in
    let shown : loop.at + 16 - loop.at ≡ 16 = omega arith in
    let block = rw shown at (sym c.all_inner.ensures ∙ c.if-not-all_inner.false) in
    (omega arith, omega arith, ap (every (is_inner k)) (take-add loop.at 16 p) ∙ every_append (is_inner k) (take loop.at p) (take 16 (drop loop.at p)) loop.invariant.2 block)

pub returns : goal.returns
returns c =
    let k = c.args.k in
    let p = c.args.p.now in
    let loop = c.loop-at in
    c.all_inner-2.ensures
    ∙ ap (every (is_inner k)) (whole_rest p (length p - 16))
    ∙ rest_tells k p (length p - 16) loop.at (omega arith) loop.invariant.2
