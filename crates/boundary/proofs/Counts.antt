-- How many values a frame has that was read: as many as its kind and its code say. Assumes nothing.
use Prim.Native.Nat.{ℕ}
use Rattle.std.specs.Prelude.{Ok}
use mathlib.Core.Path.{◌≡◌, refl}
use mathlib.Core.List.{List}
use borrow.Author.Tests.{ne_eqb}
use lib.ListN.{length}
use Rattle.rules.specs.Bytes.{one_of}
use Rattle.rules.specs.Answers.{read_one, kind_of, values}
use Rattle.rules.specs.Sentences.{numbers02, numbers03}
use Rattle.rules.specs.Messages.{word_from, behind}
use Rattle.rules.specs.declared.Message as MessageType
use Rattle.rules.specs.declared.Message.TheVariants.{Question, Number, Version, Clock, Tune, OtherLetters}
use Rattle.rules.specs.declared.Frame.{Frame}
use Rattle.rules.specs.declared.Frame.TheVariants.{Ack, Status, Command, Apa02, Apa03, Apa05, Other, Message}
use Rattle.frame_laws.proofs.Exact.{IsFrame, IsBehind}
use Rattle.demands.proofs.Demand2.{exact}
use Rattle.rows.specs.Rows.{kind_row, code_of}
use Rattle.boundary.specs.Passed.{value_count}

-- what a frame's row says
abbrev pub count_of : Frame → ℕ
count_of f = value_count (kind_row (kind_of f)) (code_of (kind_of f))

message_count : (m : MessageType.Message) (t : List ℕ) → IsBehind m t → length (values (Message m)) ≡ count_of (Message m)
unfolding value_count behind one_of word_from
message_count (Question letters) t i = refl
message_count (Number letters n) t i = rw i.2
message_count (Version a b) t i = refl
message_count (Clock c) t i = refl
message_count Tune t i = refl
message_count (OtherLetters w) t i = refl

frame_count : (bs : List ℕ) (f : Frame) → IsFrame bs f → length (values f) ≡ count_of f
unfolding value_count numbers02 numbers03
frame_count bs (Ack c) i = refl
frame_count bs (Status s) i = refl
frame_count bs (Command c) i = refl
frame_count bs (Apa02 r) i = refl
frame_count bs (Apa03 r) i = refl
frame_count bs (Apa05 r) i = refl
frame_count bs (Other n) i = rw (ne_eqb n 2 i.1, ne_eqb n 3 i.2, ne_eqb n 5 i.3)
frame_count bs (Message m) i = message_count m _ i.2

pub counted : (family : ℕ) (bs : List ℕ) (f : Frame) → read_one family bs ≡ Ok f → length (values f) ≡ count_of f
counted family bs f e = frame_count bs f ((exact family bs f).0 e).1
