-- Parts of a sentence as they are written.
use Rattle.std.specs.Prelude.{ℕ, ◌+◌, ◌≤◌, ◌≡◌, true, List, ◌∷◌, ◌++◌, ℤ, length}
use Prim.Native.Char.{code}
use Rattle.rules.specs.Numbers.{hex_digits}
use Rattle.rules.specs.Sentences.{sum1, sum2, temperature_text, fit, decimals, commas}

-- the payload behind the dollar sign, and what stands behind it
abbrev pub front : List ℕ → List ℕ
front p = code "$" ∷ p

abbrev pub seal : List ℕ → List ℕ
seal p = code "*" ∷ hex_digits (sum2 p) ++ hex_digits (sum1 p)

-- a field behind its comma
abbrev pub temperature_field : ℤ → List ℕ
temperature_field z = code "," ∷ temperature_text z

abbrev pub hex_field : ℕ → List ℕ
hex_field n = code "," ∷ hex_digits n

-- decimal fields, each behind its comma
abbrev pub decimal_fields : List ℕ → List ℕ → List ℕ
decimal_fields widths numbers = commas (decimals widths numbers)

-- A number for each width, which has room in it; and room for all fields in the output from a place on.
pub record FieldsFit (widths numbers out : List ℕ) (at : ℕ) : Type 0 where
  pub fits : fit widths numbers ≡ true
  pub room : at + length (decimal_fields widths numbers) ≤ length out
