-- What is left of a run after a call on the reader, and a run as a whole.
use Rattle.std.specs.Prelude.{ℕ, ◌-◌, ◌<◌, ◌≡◌, Bool, true, false, cond, ◌==◌, nat_lt, List, [], length, take, drop, Option, Some, None, Result, Ok, Err}
use Rattle.rules.specs.declared.Refusal.{Refusal}
use Rattle.stream_rules.specs.Streams.{fed, shut}
use Rattle.stream_rules.specs.declared.Progress.{Progress}
use Rattle.stream_rules.specs.declared.Progress.TheVariants.{Ready, More, Done}
use Rattle.stream_rules.specs.declared.Reader.{Reader}
use Rattle.stream_rules.specs.declared.Ready as ReadyType

-- What is left of a run: the bytes to offer; how often a call must still find no frame with none left; and whether the
-- reader is to be closed now.
pub record Course : Type 0 where
  pub left : List ℕ
  pub ends : ℕ
  pub closes : Bool

-- How many bytes are offered at once.
abbrev pub piece : ℕ
piece = 16

-- How often a call finds no frame when no byte is left to offer: before the close and after it.
abbrev pub endings : ℕ
endings = 2

-- A run begins with all bytes to offer.
abbrev pub at_first : List ℕ → Course
at_first bytes = record { left = bytes; ends = endings; closes = false }

-- Without a frame the piece is taken; where no byte is left to offer, the reader is closed, and the next time the run
-- ends.
abbrev pub piece_taken : Course → Course
piece_taken c = record { left = drop piece c.left; ends = c.ends; closes = false }

abbrev pub none_left : Course → Course
none_left c = record { left = []; ends = c.ends - 1; closes = (c.ends == endings) }

abbrev pub after_none : Course → Course
after_none c = cond (nat_lt 0 (length c.left)) (piece_taken c) (none_left c)

-- the frame that an answer hands out, if it does
abbrev pub ready_in : Result Progress Refusal → Option ReadyType.Ready
ready_in (Ok (Ready x)) = Some x
ready_in (Ok (More n)) = None
ready_in (Ok (Done n)) = None
ready_in (Err e) = None

-- With a frame the bytes taken are no longer left.
abbrev pub after : Course → Result Progress Refusal → Course
after c (Ok (Ready x)) = record { left = drop x.taken c.left; ends = c.ends; closes = false }
after c (Ok (More n)) = after_none c
after c (Ok (Done n)) = after_none c
after c (Err e) = after_none c

-- once the reader is closed
abbrev pub closed : Course → Course
closed c = record { left = c.left; ends = c.ends; closes = false }

-- The reader and the course that a run comes to from others, step by step: where the course says so the reader is closed, and
-- else, as long as there is an ending left, a call offers the next piece.
pub data Comes (r : Reader) (c : Course) : Reader → Course → Type 0 where
  here : Comes r c r c
  calls : {y : Reader} {d : Course} → Comes r c y d → d.closes ≡ false → 0 < d.ends
      → Comes r c (fed y (take piece d.left)).reader (after d (fed y (take piece d.left)).answer)
  closes : {y : Reader} {d : Course} → Comes r c y d → d.closes ≡ true → Comes r c (shut y).reader (closed d)

-- no byte is left to offer, and the reader is to be closed
abbrev pub all_offered : Course
all_offered = none_left (at_first [])

-- no byte is left to offer, and the reader is closed and to be drained
abbrev pub all_closed : Course
all_closed = closed all_offered

-- the run is over
abbrev pub over : Course
over = none_left all_closed
