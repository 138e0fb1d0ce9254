-- `starts::brackets::all_inner` meets its contract: as many bytes pass as there are.
-- Assumes nothing.
use Rattle.std.proofs.Common.{◌≡◌, ℕ, cond, eqb, length, sym, ap, ◌∙◌, rules, tests, arith}
use Rattle.std.specs.List.{count_by}
use Rattle.std.proofs.lemmas.Iterator.{YieldsList-from_slice, YieldsList-from_map}
use Rattle.std.proofs.lemmas.Iterator.Consumers.{sum_by_from_yields_List, fits_by_from_yields_list}
use Rattle.stream_rules.specs.Heads.{is_inner}
use Rattle.starts.proofs.Blocks.{few_pass, all_pass}
use Rattle.starts.proofs.brackets.all_inner.Goals as goal

pub sum-inner-requires-clause-fits : goal.sum-inner-requires-clause-fits
sum-inner-requires-clause-fits c =
    let test = is_inner c.args.k in
    let block = c.args.block.now in
    let long : length block ≡ 16 = search rules in
    fits_by_from_yields_list (λ (b : ℕ). cond (test b) 1 0) block c.map.result 256
    (YieldsList-from_map _ (λ (b : ℕ). cond (test b) 1 0) (YieldsList-from_slice block cc) c.map.ensures.closure (λ x r q k. search (rules, tests)))
    (omega (arith, few_pass test block, long))

pub returns : goal.returns
returns c =
    let test = is_inner c.args.k in
    let block = c.args.block.now in
    let counted : c.sum-inner.result ≡ count_by test block =
    sum_by_from_yields_List (λ (b : ℕ). cond (test b) 1 0) block c.map.result _ c.sum-inner.ensures.ran
    (YieldsList-from_map _ (λ (b : ℕ). cond (test b) 1 0) (YieldsList-from_slice block cc) c.map.ensures.closure (λ x r q k. search (rules, tests))) in
    let long : length block ≡ 16 = search rules in
    ap (λ (n : ℕ). eqb n 16) counted ∙ ap (eqb (count_by test block)) (sym long) ∙ all_pass test block
