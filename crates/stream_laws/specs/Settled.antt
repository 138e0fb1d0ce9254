-- How many bytes settle a start that is not undecided: with one byte less it was. This is no rule of document 01 but what
-- follows from `undecided`, as this crate proves (`settling`); the readers count by it which byte made a frame ready.
use Rattle.std.specs.Prelude.{ℕ, zero, suc, max, ◌+◌, cond, not, List, eqb, leb, length, drop, get_or}
use Rattle.stream_rules.specs.Heads.{is_spe, mark_of, needs, brackets_of, around, inner_run}
use Rattle.stream_rules.specs.declared.Brackets.{Brackets}

-- the first byte that is no mark, or a count that is not allowed, or as many bytes as the start needs
unfoldable pub spe_settled : ℕ → List ℕ → ℕ
spe_settled family bs =
    cond (not (eqb (mark_of family) (get_or bs 0 0))) 1
    (cond (not (eqb (mark_of family) (get_or bs 1 0))) 2
    (cond (not (eqb (mark_of family) (get_or bs 2 0))) 3
    (cond (eqb (needs family bs) 0) 4
    (needs family bs))))

-- a byte that is no opening one, or a byte too many between the brackets, or the byte that ends what stands there, and as many
-- more as stand behind a closing one
unfoldable pub bracket_settled : Brackets → List ℕ → ℕ
bracket_settled k bs =
    let run = length (inner_run k (drop 1 bs)) in
    cond (not (eqb (get_or bs 0 0) k.opening)) 1
    (cond (not (leb run k.most)) (k.most + 2)
    (cond (eqb (get_or bs (run + 1) 0) k.closing) (around k run)
    (run + 2)))

unfoldable pub settled : ℕ → List ℕ → ℕ
settled family bs = cond (is_spe family) (spe_settled family bs) (bracket_settled (brackets_of family) bs)

-- Of the first k starts of a list, how far the bytes reach that settle them.
unfoldable pub reach : ℕ → ℕ → List ℕ → ℕ
reach family zero bs = zero
reach family (suc k) bs = max (reach family k bs) (k + settled family (drop k bs))
