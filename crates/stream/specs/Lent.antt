-- A call on a lent reader is a call by value: the reader that is left behind, and the answer.
use Rattle.stream_rules.specs.declared.Reader.{Reader}
use Rattle.rules.specs.declared.Refusal.{Refusal}
use Rattle.stream_rules.specs.declared.Progress.{Progress}
use Rattle.std.specs.Prelude.{Result}
use Rattle.stream_rules.specs.declared.Fed.{Fed}
use Rattle.stream_rules.specs.declared.Turned.{Turned}

abbrev pub left : Reader → (Result Progress Refusal) → Fed
left r a = record { reader = r; answer = a }

abbrev pub turned : Reader → (Result Unit Refusal) → Turned
turned r o = record { reader = r; outcome = o }
