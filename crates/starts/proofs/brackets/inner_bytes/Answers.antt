-- `starts::brackets::inner_bytes` meets its contract: the run of a front of so many bytes is the run, counted to that number. No
-- list has as many bytes as the largest number.
-- Assumes nothing.
use Rattle.std.proofs.Common.{ℕ, List, length, ap, ◌∙◌, arith}
use Rattle.stream_rules.specs.Heads.{inner_run}
use Rattle.stream_laws.proofs.Runs.{run_take, run_within}
use Rattle.starts.proofs.brackets.inner_bytes.Goals as goal

pub returns : goal.returns
returns c =
    let a = c.args in
    let bytes = a.p.now in
    let n = c.saturating_add.result in
    c.run_by_blocks.ensures
    ∙ ap (λ (l : List ℕ). length (inner_run a.k l)) c.text.ensures.content
    ∙ omega (arith, run_take a.k n bytes, run_within a.k bytes, c.saturating_add.ensures)
