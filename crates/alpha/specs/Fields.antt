-- A row of fields, read one after the other, each text by the width of its field.
use Rattle.std.specs.Prelude.{ℕ, ◌≡◌, cond, leb, List, [], ◌∷◌, Option, Some, None, length, drop, get_or, ℤ}
use Rattle.rules.specs.Numbers.{hex_number}
use Rattle.rules.specs.Sentences.{behind_commas, is_hex_field, is_temperature, temperature}
use Rattle.texts.specs.Numbers.{digits_in}

abbrev pub Text : Type 0
Text = List ℕ

-- a decimal number of at most w digits; that it fits, digits_in allows 9
abbrev pub decimal_in : ℕ → Text → Option ℕ
decimal_in w t = cond (leb (length t) w) (digits_in t) None

-- what two hexadecimal digits give
abbrev pub hex_value : Text → ℕ
hex_value t = hex_number (get_or t 0 0) (get_or t 1 0)

abbrev pub hex_in : Text → Option ℕ
hex_in t = cond (is_hex_field t) (Some (hex_value t)) None

abbrev pub degrees_in : Text → Option ℤ
degrees_in t = cond (is_temperature t) (Some (temperature t)) None

-- what the first text gives
abbrev pub first_in : {A : Type 0} → (Text → Option A) → List Text → Option A
first_in read [] = None
first_in read (t ∷ ts) = read t

-- The first text is read: this is its value, and behind it stand these bytes.
pub record First {A : Type 0} (read : Text → Option A) (ts : List Text) (v : A) (rest : List ℕ) : Type 0 where
  pub value : first_in read ts ≡ Some v
  pub behind : behind_commas rest ≡ drop 1 ts

-- a value and the values behind it
abbrev pub onto_row : {A : Type 0} → Option A → Option (List A) → Option (List A)
onto_row None row = None
onto_row (Some v) None = None
onto_row (Some v) (Some vs) = Some (v ∷ vs)

-- The values of the first texts, one for each width: there are none where a text is missing, or has no value.
unfoldable pub row_in : {A : Type 0} → (ℕ → Text → Option A) → List ℕ → List Text → Option (List A)
row_in read [] ts = Some []
row_in read (w ∷ ws) [] = None
row_in read (w ∷ ws) (t ∷ ts) = onto_row (read w t) (row_in read ws ts)

-- A row is read: these are its values, and behind it stand these bytes.
pub record Row {A : Type 0} (read : ℕ → Text → Option A) (ws : List ℕ) (ts : List Text) (vs : List A) (rest : List ℕ) : Type 0 where
  pub values : row_in read ws ts ≡ Some vs
  pub behind : behind_commas rest ≡ drop (length ws) ts
