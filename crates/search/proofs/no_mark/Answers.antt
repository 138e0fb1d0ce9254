-- `search::no_mark` meets its contract: each byte is joined to those before it.
-- Assumes nothing.
use Rattle.std.proofs.Common.{◌≡◌, ℕ, Bool, true, false, ◌&&◌, List, [], ◌∷◌, zero, suc, ◌<◌, length, get_or, sym, refl, ◌∙◌, arith, rules, tests}
use borrow.Author.Tests.{not-true, eqb-false}
use Rattle.frame_laws.proofs.Bytes.{every_split}
use Rattle.std.specs.List.{fold}
use Rattle.std.proofs.lemmas.Iterator.{YieldsList-from_slice}
use Rattle.std.proofs.lemmas.Iterator.Consumers.{fold_from_yields_List}
use Rattle.rules.specs.Bytes.{every}
use Rattle.search.specs.Sought.{is_other}
use Rattle.search.proofs.no_mark.Goals as goal

-- what is joined from a start on
joined : (test : ℕ → Bool) (so_far : Bool) (xs : List ℕ) → fold (λ a x. a && test x) so_far xs ≡ (so_far && every test xs)
unfolding every
joined test true [] = refl
joined test false [] = refl
joined test true (x ∷ xs) = joined test (test x) xs
joined test false (x ∷ xs) = joined test false xs

-- bytes of which each is another are no marks
other_there : (mark : ℕ) (xs : List ℕ) (j : ℕ) → every (is_other mark) xs ≡ true → j < length xs → get_or xs j 0 ≡ mark → ⊥
other_there mark [] j e low = absurd (omega arith)
other_there mark (x ∷ xs) zero e low = eqb-false _ _ (not-true _ (every_split (is_other mark) x xs e).0)
other_there mark (x ∷ xs) (suc j) e low = other_there mark xs j (every_split (is_other mark) x xs e).1 (omega arith)

pub returns : goal.returns
returns c e j low high =
    let test = is_other c.args.mark in
    let every_one : c.fold.result ≡ every test c.args.block.now =
    fold_from_yields_List _ (λ (a : Bool) (b : ℕ). a && test b) true _ c.fold.ensures.ran (YieldsList-from_slice c.args.block.now cc) (λ a x b q k. search (rules, tests))
    ∙ joined test true c.args.block.now in
    other_there c.args.mark c.args.block.now j (sym every_one ∙ e) (omega (arith, c.requires))
