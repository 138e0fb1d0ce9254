-- What the digits' functions give back, in the words of the rules.
use Rattle.std.specs.Prelude.{◌≡◌, ℕ, ◌<◌, cond, ◌&&◌, List, Option, Some, None, slice_index}
use Rattle.rules.specs.Numbers.{is_hex_digit, hex_digit_number, hex_number}

-- a digit's number, and 16 where the byte is no digit
unfoldable pub digit_in : ℕ → ℕ
digit_in b = cond (is_hex_digit b) (hex_digit_number b) 16

-- a table of 256 entries that has the number of each byte
abbrev pub OfDigits : List ℕ → Type 0
OfDigits table = (b : ℕ) → b < 256 → slice_index table b ≡ digit_in b

-- the number of a digit
unfoldable pub digit_of : ℕ → Option ℕ
digit_of b = cond (is_hex_digit b) (Some (hex_digit_number b)) None

-- the number of two digits
unfoldable pub pair_in : ℕ → ℕ → Option ℕ
pair_in upper lower = cond (is_hex_digit upper && is_hex_digit lower) (Some (hex_number upper lower)) None

-- the numbers of four digits, two by two
abbrev pub pairs_in : ℕ → ℕ → ℕ → ℕ → Option ℕ × Option ℕ
pairs_in a b c d = (pair_in a b, pair_in c d)
