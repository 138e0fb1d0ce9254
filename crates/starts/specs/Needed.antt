-- How many bytes a start of an SPE packet needs, where it has a count that is allowed.
use Rattle.std.specs.Prelude.{ℕ, cond, List, eqb, Option, Some, None}
use Rattle.stream_rules.specs.Heads.{needs}

-- A count that is not there or not allowed needs no bytes, and any other needs some.
abbrev pub needed : ℕ → List ℕ → Option ℕ
needed family bs = cond (eqb (needs family bs) 0) None (Some (needs family bs))
