-- The writer's form, as a rule on the texts of a frame: how its numbers are padded. No writer is named here.
use Rattle.std.specs.Prelude.{ℕ, Bool, true, false, ◌&&◌, cond, not, List, [], ◌∷◌, eqb, length, take, get_or, nat_abs}
use Prim.Native.Char.{code}
use Rattle.rules.specs.Bytes.{every, first}
use Rattle.rules.specs.Numbers.{is_digit}
use Rattle.rules.specs.Status.{field, data_of}
use Rattle.rules.specs.Sentences.{widths02, widths03, whole, temperature, payload_of, texts_of}
use Rattle.rules.specs.Messages.{is_capital, letter_run, body_of}
use Rattle.rules.specs.declared.Message as MessageType
use Rattle.rules.specs.declared.Message.TheVariants.{Question, Number, Version, Clock, Tune, OtherLetters}
use Rattle.rules.specs.declared.Frame.{Frame}
use Rattle.rules.specs.declared.Frame.TheVariants.{Ack, Status, Command, Apa02, Apa03, Apa05, Other, Message}

-- padded with zeros: digits alone
abbrev pub zeros_in_front : List ℕ → Bool
zeros_in_front t = every is_digit t

-- no leading zero, except as the only digit
abbrev pub no_leading_zero : List ℕ → Bool
no_leading_zero [] = false
no_leading_zero (b ∷ []) = is_digit b
no_leading_zero (b ∷ c ∷ bs) = not (eqb b (code "0")) && every is_digit (b ∷ c ∷ bs)

-- padded with spaces: spaces, then a number with no leading zero
unfoldable pub spaces_in_front : List ℕ → Bool
spaces_in_front [] = false
spaces_in_front (b ∷ bs) = cond (eqb b (code " ")) (spaces_in_front bs) (no_leading_zero (b ∷ bs))

-- Field 10 is padded with zeros, fields 11 to 17 with spaces; a zero may stand before a point. A report is written with its
-- comma or without it as it was read, so either is in the writer's form.
unfoldable pub status_form : List ℕ → Bool
status_form d =
    zeros_in_front (field 10 d)
    && spaces_in_front (take 2 (field 11 d)) && spaces_in_front (take 2 (field 12 d))
    && spaces_in_front (take 2 (field 13 d)) && spaces_in_front (take 2 (field 14 d))
    && spaces_in_front (field 15 d) && spaces_in_front (field 16 d) && spaces_in_front (field 17 d)

-- Decimal fields have all their digits.
unfoldable pub full_width : List ℕ → List (List ℕ) → Bool
full_width [] ts = true
full_width (w ∷ ws) [] = false
full_width (w ∷ ws) (t ∷ ts) = eqb (length t) w && full_width ws ts

-- A temperature has three digits before its point, and a plus where it is zero.
unfoldable pub temperature_form : List ℕ → Bool
temperature_form t = eqb (length (whole t)) 3 && not (eqb (first t) (code "-") && eqb (nat_abs (temperature t)) 0)

-- The letters of a message are capitals; all else in one can be written in one way only. Nothing is asked of letters that
-- are not listed.
abbrev pub message_form : MessageType.Message → List ℕ → Bool
message_form (Question letters) body = every is_capital (letter_run body)
message_form (Number letters n) body = every is_capital (letter_run body)
message_form (Version a b) body = every is_capital (letter_run body)
message_form (Clock c) body = every is_capital (letter_run body)
message_form Tune body = every is_capital (letter_run body)
message_form (OtherLetters w) body = true

-- The fields of this frame, read from these bytes, stood in the writer's form. Sentence 05, an acknowledgement and a
-- command can be written in one way only.
unfoldable pub in_form : Frame → List ℕ → Bool
in_form (Ack c) bs = true
in_form (Status s) bs = status_form (data_of bs)
in_form (Command c) bs = true
in_form (Apa02 r) bs = full_width widths02 (texts_of (payload_of bs))
in_form (Apa03 r) bs = full_width widths03 (texts_of (payload_of bs)) && temperature_form (get_or (texts_of (payload_of bs)) 8 [])
in_form (Apa05 r) bs = true
in_form (Other n) bs = true
in_form (Message m) bs = message_form m (body_of bs)
