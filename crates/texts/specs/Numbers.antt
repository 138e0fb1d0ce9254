-- What is read from a field, in the words of the rules.
use Rattle.std.specs.Prelude.{ℕ, cond, ◌&&◌, List, length, Option, Some, None}
use Rattle.rules.specs.Bytes.{between, every}
use Rattle.rules.specs.Numbers.{is_digit, decimal}

-- the number of a row of 1 to 9 digits
unfoldable pub digits_in : List ℕ → Option ℕ
digits_in t = cond (between 1 9 (length t) && every is_digit t) (Some (decimal t)) None
