-- The letters that a body begins with, as far as a number holds them, and the four bytes of such a number.
use Rattle.std.specs.Prelude.{ℕ, ◌/◌, ◌%◌, ◌^◌, cond, leb, List, [], ◌∷◌, length, Option, Some, None}
use Rattle.rules.specs.Messages.{letter_run, letters_in, word}

-- the letters of a body as a number, where it holds them all
unfoldable pub lead_of : List ℕ → Option ℕ
lead_of body = cond (leb (length (letter_run body)) 4) (Some (word (letters_in body))) None

-- the four bytes of a number of 32 bits, the highest first
abbrev pub word_bytes : ℕ → List ℕ
word_bytes n = n / 2 ^ 24 % 256 ∷ n / 2 ^ 16 % 256 ∷ n / 2 ^ 8 % 256 ∷ n % 256 ∷ []
