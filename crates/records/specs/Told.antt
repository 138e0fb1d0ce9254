-- A frame's fields as they are handed on: its kind, how many values it has, and these.
use Rattle.std.specs.Prelude.{ℕ, ◌-◌, ◌≡◌, List, ◌++◌, ℤ, pos, length, replicate}
use Rattle.rules.specs.Answers.{kind_of, status_values, values}
use Rattle.rules.specs.declared.Kind.{Kind}
use Rattle.rules.specs.declared.Frame.{Frame}
use Rattle.records.specs.declared.told.Fields.{Fields}

-- There are as many places as a status report has values.
abbrev pub value_places : ℕ
value_places = status_values

-- the values in the places, from the first on, with zeros in the unused ones
abbrev pub placed : List ℤ → List ℤ
placed vs = vs ++ replicate (value_places - length vs) (pos 0)

abbrev pub with_values : Kind → List ℤ → Fields
with_values kind vs = record { kind = kind; count = length vs; values = placed vs }

abbrev pub fields_of : Frame → Fields
fields_of f = with_values (kind_of f) (values f)

-- what is told of a frame
pub record FieldsTold (f : Frame) (r : Fields) : Type 0 where
  pub kind : r.kind ≡ kind_of f
  pub count : r.count ≡ length (values f)
  pub places : r.values ≡ placed (values f)
