-- Fields of a status report as they are written, each behind its comma.
use Rattle.std.specs.Prelude.{ℕ, ◌/◌, ◌%◌, List, [], ◌∷◌, ◌++◌}
use Prim.Native.Char.{code}
use Rattle.rules.specs.Bytes.{total}
use Rattle.pens.specs.Pens.{number_in, field_in}

abbrev pub letter : ℕ → List ℕ
letter b = code "," ∷ b ∷ []

-- two bytes before the point and d behind it, parted by the scale
abbrev pub point_in : ℕ → ℕ → ℕ → List ℕ
point_in d scale n = field_in (code " ") 2 (n / scale) ++ code "." ∷ number_in (code "0") d (n % scale)

-- the checksum, behind the data
abbrev pub check : List ℕ → List ℕ
check d = total d % 256 ∷ total d / 256 ∷ []
