-- The two ends of a report: what tells, before its data is looked at, that bytes may be one.
use Rattle.std.specs.Prelude.{ℕ, ◌+◌, Bool, ◌&&◌, List, eqb, leb, length, get_or}
use Rattle.rules.specs.Bytes.{same, part}
use Rattle.rules.specs.Status.{behind_checksum, comma_in, report_length_in, line_end}

-- its first four bytes: three marks of family 1, and the count 43
abbrev pub begins_report : List ℕ → Bool
begins_report bs = leb 4 (length bs) && (((eqb (get_or bs 0 0) 0xAA && eqb (get_or bs 1 0) 0xAA) && eqb (get_or bs 2 0) 0xAA) && eqb (get_or bs 3 0) 0x43)

-- all its bytes are there, and behind its checksum the line end of its form
abbrev pub ends_report : List ℕ → Bool
ends_report bs = leb (report_length_in bs) (length bs) && same (part behind_checksum (2 + comma_in bs) bs) (line_end (comma_in bs))
