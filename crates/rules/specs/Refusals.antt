-- The numbers for no, as document 01 gives them, and the refusal that each of them stands for.
use Rattle.std.specs.Prelude.{ℕ}
use Rattle.rules.specs.declared.Refusal.{Refusal}
use Rattle.rules.specs.declared.Refusal.TheVariants.{NoFamily, NoCode, NoRecord, NoRoom, IsClosed, HoldsTooMuch, TooLong, NotGood}

abbrev pub no_family : ℕ
no_family = 1

abbrev pub no_code : ℕ
no_code = 2

abbrev pub no_record : ℕ
no_record = 3

abbrev pub no_room : ℕ
no_room = 4

abbrev pub is_closed : ℕ
is_closed = 5

abbrev pub holds_too_much : ℕ
holds_too_much = 6

abbrev pub too_long : ℕ
too_long = 7

abbrev pub not_good : ℕ
not_good = 8

abbrev pub number_for : Refusal → ℕ
number_for NoFamily = no_family
number_for NoCode = no_code
number_for NoRecord = no_record
number_for NoRoom = no_room
number_for IsClosed = is_closed
number_for HoldsTooMuch = holds_too_much
number_for TooLong = too_long
number_for NotGood = not_good
