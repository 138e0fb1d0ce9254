-- What is left to show of `starts::brackets::run_by_blocks`, with the invariants beside. Assumes nothing.
use Rattle.std.proofs.Common.{◌≡◌, ℕ, ◌+◌, ◌-◌, List, length, take, drop, sym, ap, ◌∙◌, arith}
use Rattle.stream_rules.specs.Heads.{inner_run}
use Rattle.stream_rules.specs.declared.Brackets.{Brackets}
use Rattle.stream_laws.proofs.Lists.{whole_rest}
use Rattle.stream_laws.proofs.Runs.{run_within, run_from}
use Rattle.starts.proofs.brackets.run_by_blocks.Goals as goal

-- what is behind n, as the rest of the whole
counted : (k : Brackets) (p : List ℕ) (n r : ℕ) → r ≡ length (inner_run k (take (length p - n) (drop n p))) → r ≡ length (inner_run k (drop n p))
counted k p n r e = e ∙ ap (λ (l : List ℕ). length (inner_run k l)) (whole_rest p n)

pub loop-n-preserved : goal.loop-n-preserved
loop-n-preserved c =
    let n = c.loop-n.n in
    let shown : n + 16 - n ≡ 16 = omega arith in
    let good = rw shown at (sym c.all_inner.ensures ∙ c.if-not-all_inner.false) in
    (omega arith, omega (arith, run_from c.args.k c.args.p.now n 16 (omega arith) good))

pub overflow_add-result : goal.overflow_add-result
overflow_add-result c =
    omega (arith, counted c.args.k c.args.p.now c.loop-n.n _ c.run_by_bytes.ensures, run_within c.args.k c.args.p.now)

pub returns : goal.returns
returns c = omega (arith, counted c.args.k c.args.p.now c.loop-n.n _ c.run_by_bytes.ensures)
