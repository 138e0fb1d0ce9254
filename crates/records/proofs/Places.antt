-- Laws of values in their places: those behind the values are zeros; and of what is told of a frame.
-- Assumes nothing.
use Prim.Native.Nat.{ℕ, zero, suc, ◌-◌, ◌≤◌, ◌<◌}
use mathlib.Core.Path.{◌≡◌, ap}
use mathlib.Core.List.{List, ◌++◌, map}
use native.Mathlib.Nat.{zero-add, zero-sub}
use native.Mathlib.Numerals.{unary_clauses}
use native.Mathlib.Omega.{arith}
use lib.Dec.{lit≤}
use lib.IntN.{ℤ, pos}
use lib.ListN.{length, take, drop, get_or, set, replicate, length-append}
use lib.Seq.{paste-suc, take-append_seam}
use Rattle.rules.specs.Sentences.{numbers02, numbers03}
use Rattle.rules.specs.Messages.{message_numbers}
use Rattle.rules.specs.Answers.{values}
use Rattle.rules.specs.declared.Message as MessageType
use Rattle.rules.specs.declared.Message.TheVariants.{Question, Number, Version, Clock, Tune, OtherLetters}
use Rattle.rules.specs.declared.Frame.{Frame}
use Rattle.rules.specs.declared.Frame.TheVariants.{Ack, Status, Command, Apa02, Apa03, Apa05, Other, Message}
use Rattle.records.specs.Told.{value_places, fields_of, FieldsTold}
use Rattle.records.specs.declared.told.Fields.{Fields}

pub zeros_left : (n m : ℕ) → drop n (replicate m (pos 0)) ≡ replicate (m - n) (pos 0)
zeros_left zero m = simp unary_clauses
zeros_left (suc n) zero = rw zero-sub
zeros_left (suc n) (suc m) = simp unary_clauses (zeros_left n m)

-- the places with nothing in them
abbrev pub zeros : List ℤ
zeros = replicate value_places (pos 0)

-- the first j numbers of s at the front of d, and one more
abbrev pub over : List ℤ → List ℤ → ℕ → List ℤ
over d s j = take j s ++ drop j d

pub one_more : (d s : List ℤ) (j : ℕ) → j < length d → j < length s → set (over d s j) j (get_or s j (pos 0)) ≡ over d s (suc j)
one_more d s j p q = simp zero-add at (paste-suc d 0 s j (pos 0) (rw zero-add p) q)

-- No frame has more values than a status report has.
few_numbers : (m : MessageType.Message) → length (map pos (message_numbers m)) ≤ value_places
few_numbers (Question letters) = lit≤ tt
few_numbers (Number letters n) = lit≤ tt
few_numbers (Version a b) = lit≤ tt
few_numbers (Clock c) = lit≤ tt
few_numbers Tune = lit≤ tt
few_numbers (OtherLetters w) = lit≤ tt

pub few_values : (f : Frame) → length (values f) ≤ value_places
unfolding numbers02 numbers03
few_values (Ack c) = lit≤ tt
few_values (Status s) = lit≤ tt
few_values (Command c) = lit≤ tt
few_values (Apa02 r) = lit≤ tt
few_values (Apa03 r) = lit≤ tt
few_values (Apa05 r) = lit≤ tt
few_values (Other n) = lit≤ tt
few_values (Message m) = few_numbers m

-- What is told of a frame: its fields; of these the values come back, and they stand in the places.
pub tells : (f : Frame) {r : Fields} → r ≡ fields_of f → FieldsTold f r
tells f e = record {
  kind = ap (λ (x : Fields). x.kind) e;
  count = ap (λ (x : Fields). x.count) e;
  places = ap (λ (x : Fields). x.values) e;
}

module _ {f : Frame} {r : Fields} (told : FieldsTold f r) where
  pub told_values : take r.count r.values ≡ values f
  told_values = rw (told.count, told.places, take-append_seam)

  pub told_few : r.count ≤ value_places
  told_few = rw told.count (few_values f)

  pub told_placed : r.count ≤ length r.values
  told_placed = rw (told.count, told.places) (omega (arith, length-append (values f) (replicate (value_places - length (values f)) (pos 0))))
