-- What the parts of the report's reader give back.
use Rattle.std.specs.Prelude.{ℕ, ◌+◌, ◌*◌, ◌%◌, List, [], ◌∷◌, Option}
use Rattle.std.specs.Bool.{then_some}
use Rattle.rules.specs.Answers.{status_numbers}
use Rattle.rules.specs.Status.{status_in, is_status}
use Rattle.rules.specs.declared.Status.{Status}

-- a row of bytes as a number, read on from the number n: a digit counts as itself, and a space as nothing
unfoldable pub weighed : ℕ → List ℕ → ℕ
weighed n [] = n
weighed n (b ∷ bs) = weighed (n * 10 + b % 16) bs

-- the record of a status report, or none
unfoldable pub report_in : List ℕ → Option Status
report_in bs = then_some (is_status bs) (status_in bs)

-- its values as numbers, or none
unfoldable pub numbers_in : List ℕ → Option (List ℕ)
numbers_in bs = then_some (is_status bs) (status_numbers (status_in bs))
