-- What a pen leaves in the lent output: bytes at a place, and a number's digits.
use Rattle.std.specs.Prelude.{ℕ, zero, suc, ◌+◌, ◌/◌, ◌%◌, cond, List, [], ◌∷◌, ◌++◌, eqb, leb, length, take, drop}
use Prim.Native.Char.{code}

-- the output with these bytes laid at place a, where they fit; else as it was
unfoldable pub laid : ℕ → List ℕ → List ℕ → List ℕ
laid a bs out = cond (leb (a + length bs) (length out)) (take a out ++ bs ++ drop (a + length bs) out) out

-- the last digit of n, and pad where nothing is left of n
unfoldable pub digit_or : ℕ → ℕ → ℕ
digit_or pad n = cond (eqb n 0) pad (code "0" + n % 10)

-- the last w digits of n, with pad in front of its first digit
unfoldable pub digits_or : ℕ → ℕ → ℕ → List ℕ
digits_or pad zero n = []
digits_or pad (suc w) n = digits_or pad w (n / 10) ++ digit_or pad n ∷ []

-- the same, but that the last of them is a digit also where n is 0
unfoldable pub number_in : ℕ → ℕ → ℕ → List ℕ
number_in pad zero n = []
number_in pad (suc w) n = digits_or pad w (n / 10) ++ (code "0" + n % 10) ∷ []

-- a comma, and the number behind it
abbrev pub field_in : ℕ → ℕ → ℕ → List ℕ
field_in pad w n = code "," ∷ number_in pad w n
