-- The tests of a payload beside how it begins: what takes a pass over all of it, and its fields.
use Rattle.std.specs.Prelude.{ℕ, Bool, ◌&&◌, ◌||◌, List, leb}
use Prim.Native.Char.{code}
use Rattle.rules.specs.Bytes.{every}
use Rattle.rules.specs.Sentences.{is_payload_byte, gives_sums, number_of, texts_of}
use Rattle.rules.specs.Answers.{is_good, read_texts}

-- each byte may stand in a payload, and the check digits give its sums
abbrev pub is_checked : List ℕ → List ℕ → Bool
is_checked check p = every is_payload_byte p && gives_sums check p

-- its texts keep the rules of its number
abbrev pub is_good_payload : List ℕ → Bool
is_good_payload p = is_good (read_texts (number_of p) (texts_of p))

-- b does not stand between the digits and the letters
abbrev pub outside_gap : ℕ → Bool
outside_gap b = leb b (code "9") || leb (code "A") b
