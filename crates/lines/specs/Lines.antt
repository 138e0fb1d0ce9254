-- Texts laid into a lent line, one behind the other, and the texts of a number, of bytes and of a refusal.
use Rattle.std.specs.Prelude.{ℕ, zero, suc, ◌+◌, ◌^◌, ◌≡◌, cond, leb, ltb, length}
use mathlib.Core.List.{List, [], ◌∷◌, map}
use Rattle.rules.specs.Bytes.{ascii}
use Rattle.rules.specs.Numbers.{with_zeros, hex_digits}
use Rattle.pens.specs.Pens.{laid}
use Rattle.lines.specs.declared.Line.{Line}

-- A line that is being written: its bytes, and the place reached. A text that fits is laid there, and one that does not
-- is left out.
unfoldable pub typed_one : List ℕ → List ℕ × ℕ → List ℕ × ℕ
typed_one text (line, at) = cond (leb (at + length text) (length line)) (laid at text line, at + length text) (line, at)

-- texts one behind the other
unfoldable pub typed : List (List ℕ) → List ℕ × ℕ → List ℕ × ℕ
typed [] l = l
typed (text ∷ texts) l = typed texts (typed_one text l)

-- A function that types: what it leaves in the lent line, and the place that it gives, which is just behind the last text
-- that fitted.
pub record Types (texts : List (List ℕ)) (line : List ℕ) (at : ℕ) (after : List ℕ) (place : ℕ) : Type 0 where
  pub leaves : (after, place) ≡ typed texts (line, at)

-- the same of a line with its place, over the bytes that are lent to it, which stay the same bytes
pub record LineTypes (texts : List (List ℕ)) (line after : Line) : Type 0 where
  pub types : Types texts line.bytes.now line.end after.bytes.now after.end
  pub same : after.bytes.ghost_name ≡ line.bytes.ghost_name

-- n in the fewest of up to w digits: no leading zero except as the only digit
unfoldable pub fewest_digits : ℕ → ℕ → List ℕ
fewest_digits zero n = []
fewest_digits (suc zero) n = with_zeros 1 n
fewest_digits (suc (suc w)) n = cond (ltb n (10 ^ suc w)) (fewest_digits (suc w) n) (with_zeros (suc (suc w)) n)

-- 20 digits hold every number of 64 bits
abbrev pub decimal_text : ℕ → List ℕ
decimal_text n = fewest_digits 20 n

-- a space and a number
abbrev pub spaced_texts : ℕ → List (List ℕ)
spaced_texts n = ascii " " ∷ decimal_text n ∷ []

-- bytes as hexadecimal digits, two for each, with nothing between
abbrev pub hex_texts : List ℕ → List (List ℕ)
hex_texts bytes = map hex_digits bytes

abbrev pub refused_texts : ℕ → List (List ℕ)
refused_texts n = ascii "refused" ∷ spaced_texts n
