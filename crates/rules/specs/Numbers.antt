-- Numbers in fields: decimal digits, padded numbers, hexadecimal digits.
use Rattle.std.specs.Prelude.{ℕ, zero, suc, ◌+◌, ◌-◌, ◌*◌, ◌/◌, ◌%◌, ◌^◌, Bool, false, ◌&&◌, ◌||◌, cond, List, [], ◌∷◌, ◌++◌, eqb, ltb, take, drop, get_or}
use Prim.Native.Char.{code}
use Rattle.rules.specs.Bytes.{between, every}

abbrev pub is_digit : ℕ → Bool
is_digit b = between (code "0") (code "9") b

-- the number of a row of digits, read on from the number n
unfoldable pub decimal_from : ℕ → List ℕ → ℕ
decimal_from n [] = n
decimal_from n (d ∷ ds) = decimal_from (n * 10 + (d - code "0")) ds

abbrev pub decimal : List ℕ → ℕ
decimal ds = decimal_from 0 ds

-- A padded number: spaces, then at least one digit; leading zeros are allowed. So spaces alone are none.
unfoldable pub padded : List ℕ → Bool
padded [] = false
padded (b ∷ bs) = cond (eqb b (code " ")) (padded bs) (every is_digit (b ∷ bs))

unfoldable pub padded_number : List ℕ → ℕ
padded_number [] = 0
padded_number (b ∷ bs) = cond (eqb b (code " ")) (padded_number bs) (decimal (b ∷ bs))

-- A padded number in k bytes, a point, and digits behind it; the number counts units of the last digit.
-- The digit before the point may not be missing, so `  .00` is none.
unfoldable pub pointed : ℕ → List ℕ → Bool
pointed k text = padded (take k text) && eqb (get_or text k 0) (code ".") && every is_digit (drop (suc k) text)

unfoldable pub pointed_number : ℕ → List ℕ → ℕ
pointed_number k text = decimal_from (padded_number (take k text)) (drop (suc k) text)

-- A hexadecimal digit is uppercase.
unfoldable pub is_hex_digit : ℕ → Bool
is_hex_digit b = is_digit b || between (code "A") (code "F") b

unfoldable pub hex_digit_number : ℕ → ℕ
hex_digit_number b = cond (is_digit b) (b - code "0") (b - code "A" + 10)

-- two digits, the upper nibble first
abbrev pub hex_number : ℕ → ℕ → ℕ
hex_number upper lower = hex_digit_number upper * 16 + hex_digit_number lower

-- The writer's padding. n in w digits, zeros in front:
unfoldable pub with_zeros : ℕ → ℕ → List ℕ
with_zeros zero n = []
with_zeros (suc w) n = (code "0" + n / 10 ^ w) ∷ with_zeros w (n % 10 ^ w)

-- n in w bytes, spaces in front, and no leading zero except as the only digit:
unfoldable pub with_spaces : ℕ → ℕ → List ℕ
with_spaces zero n = []
with_spaces (suc zero) n = with_zeros 1 n
with_spaces (suc (suc w)) n = cond (ltb n (10 ^ suc w)) (code " " ∷ with_spaces (suc w) n) (with_zeros (suc (suc w)) n)

-- n with d of its digits behind a point and k bytes before it, spaces in front:
unfoldable pub with_point : ℕ → ℕ → ℕ → List ℕ
with_point k d n = with_spaces k (n / 10 ^ d) ++ code "." ∷ with_zeros d (n % 10 ^ d)

-- one hexadecimal digit, and a byte as two
unfoldable pub hex_digit : ℕ → ℕ
hex_digit n = cond (ltb n 10) (code "0" + n) (code "A" + (n - 10))

abbrev pub hex_digits : ℕ → List ℕ
hex_digits n = hex_digit (n / 16) ∷ hex_digit (n % 16) ∷ []
