-- What the tests of a report's data look for, each over all the fields that it concerns.
use Rattle.std.specs.Prelude.{ℕ, Bool, true, ◌&&◌, ◌||◌, cond, not, List, [], ◌∷◌, eqb, leb, get_or}
use Prim.Native.Char.{code}
use Rattle.rules.specs.Bytes.{ascii, one_of, every, first, same}
use Rattle.rules.specs.Status.{field, joined, cut, widths, readable, fields_in_range, status_of, warnings, alarms}

-- b may stand behind a in a padded number: a space only behind a space
abbrev pub follows : ℕ → ℕ → Bool
follows a b = eqb a (code " ") || leb (code "0") a && leb (code "0") b

-- so it is at each marked place: the byte behind it may follow the one at it
unfoldable pub all_follow : List ℕ → List ℕ → Bool
all_follow [] bs = true
all_follow (m ∷ marks) [] = true
all_follow (m ∷ marks) (a ∷ []) = true
all_follow (m ∷ marks) (a ∷ b ∷ bs) = (not (eqb m (code ">")) || follows a b) && all_follow marks (b ∷ bs)

-- the letters, but the bank's
unfoldable pub letters_good : List ℕ → Bool
letters_good d =
    one_of (ascii "SO") (first (field 2 d))
    && one_of (ascii "RT") (first (field 3 d))
    && one_of (ascii "tba") (get_or (field 7 d) 1 0)
    && one_of (ascii "LMH") (first (field 9 d))
    && one_of warnings (first (field 18 d))
    && one_of alarms (first (field 19 d))

-- no byte is above the digit 0: so a padded number is zero
abbrev pub none_above_zero : List ℕ → Bool
none_above_zero text = every (λ b. leb b (code "0")) text

-- What depends on the ID, whose first digit tells a 20K from a 13K: its second digit, the bank, the band to the limit's
-- second digit, the antennas, and the two temperatures that are zero.
abbrev pub band_to : ℕ → List ℕ → Bool
band_to limit d = eqb (first (field 6 d)) (code "0") || leb (get_or (field 6 d) 1 0) limit

abbrev pub limits20_k : List ℕ → Bool
limits20_k d = eqb (get_or (field 1 d) 1 0) (code "0") && one_of (ascii "x") (first (field 4 d)) && band_to (code "0") d

abbrev pub limits13_k : List ℕ → Bool
limits13_k d =
    eqb (get_or (field 1 d) 1 0) (code "3") && one_of (ascii "AB") (first (field 4 d)) && band_to (code "1") d
    && leb (first (field 7 d)) (code "4") && leb (first (field 8 d)) (code "4")
    && none_above_zero (field 16 d) && none_above_zero (field 17 d)

unfoldable pub limits_good : List ℕ → Bool
limits_good d = cond (eqb (first (field 1 d)) (code "2")) (limits20_k d) (limits13_k d)

-- data with commas between its fields, of which each can be read, and all are in their ranges, whatever the report's form
unfoldable pub data_good : List ℕ → Bool
data_good d = same d (joined (cut 0 widths d)) && readable d && fields_in_range (status_of 0 d)
