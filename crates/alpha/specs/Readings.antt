-- What is answered for the texts behind a sentence's number, by the number.
use Rattle.std.specs.Prelude.{Bool, cond, List}
use Rattle.rules.specs.Answers.{Read}
use Rattle.rules.specs.declared.Refusal.TheVariants.{NotGood}
use Rattle.std.specs.Prelude.{Err, Ok}
use Rattle.rules.specs.Sentences.{is02, is03, is05, sentence02, sentence03, sentence05}
use Rattle.rules.specs.declared.Frame.{Frame}
use Rattle.rules.specs.declared.Frame.TheVariants.{Apa02, Apa03, Apa05}
use Rattle.alpha.specs.Fields.{Text}

-- the frame where its fields keep their rules, else refusal 8
abbrev pub frame_if : Bool → Frame → Read
frame_if keeps frame = cond keeps (Ok frame) (Err NotGood)

abbrev pub as02 : List Text → Read
as02 ts = frame_if (is02 ts) (Apa02 (sentence02 ts))

abbrev pub as03 : List Text → Read
as03 ts = frame_if (is03 ts) (Apa03 (sentence03 ts))

abbrev pub as05 : List Text → Read
as05 ts = frame_if (is05 ts) (Apa05 (sentence05 ts))
