-- An answer that is laid with refusals of any type: of the eight refusals it is laid as they are, and where its row has no
-- room the number is that of no room.
-- Assumes nothing.
use Prim.Native.Nat.{ℕ}
use mathlib.Core.Path.{◌≡◌, refl, sym, subst, ◌∙◌}
use mathlib.Core.Bool.{Bool, true, false, cond}
use mathlib.Core.List.{List}
use lib.Dec.{leb}
use lib.IntN.{ℤ}
use lib.ListN.{length}
use Rattle.std.specs.Prelude.{Result, Ok, Err}
use Rattle.rules.specs.Refusals.{number_for, no_room}
use Rattle.rules.specs.declared.Refusal.{Refusal}
use Rattle.stream_rules.specs.Streams.{said_to_feed}
use Rattle.stream_rules.specs.declared.Progress.{Progress}
use Rattle.stream_rules.specs.declared.Progress.TheVariants.{Done, More, Ready}
use Rattle.rows.specs.Rows.{row_fed, row_number, outcome_number, LaysRow, Lays, said_by, row_by, number_by}
use Rattle.rows.proofs.Outcome.{refused_some}
use Rattle.rows.proofs.Outcomes.{lays}

pub of_the_eight : (answer : Result Progress Refusal) (result : Result Unit Refusal) (numbers after : List ℤ)
    → Lays (said_by number_for answer) (row_by answer) numbers (number_by number_for result) after
    → Lays (said_to_feed answer) (row_fed answer) numbers (outcome_number result) after
of_the_eight (Ok progress) (Ok u) numbers after p = p
of_the_eight (Ok progress) (Err e) numbers after p = p
of_the_eight (Err refusal) (Ok u) numbers after p = p
of_the_eight (Err refusal) (Err e) numbers after p = p

-- a row is refused for its room alone
room_alone : (r numbers : List ℤ) (e : Refusal) → number_for e ≡ row_number r numbers → row_number r numbers ≡ no_room
room_alone r numbers e is = by_room (leb (length r) (length numbers)) is
  where
    by_room : (b : Bool) → number_for e ≡ cond b 0 no_room → cond b 0 no_room ≡ no_room
    by_room true zero = absurd (refused_some e zero)
    by_room false four = refl

module _ {numbers after : List ℤ} where
  -- the row of a call that is no refusal was laid
  pub laid : {n : ℕ} (progress : Progress) → LaysRow (row_fed (Ok progress)) numbers n after → Lays (said_to_feed (Ok progress)) (row_fed (Ok progress)) numbers n after
  laid (Ready r) p = lays p
  laid (More n) p = lays p
  laid (Done n) p = lays p

  -- it was not, and another number for no room is given
  pub not_laid : (progress : Progress) (e : Refusal) (n : ℕ) → LaysRow (row_fed (Ok progress)) numbers (number_for e) after → n ≡ no_room
      → Lays (said_to_feed (Ok progress)) (row_fed (Ok progress)) numbers n after
  not_laid progress e n p four =
      let same : number_for e ≡ n = p.answers ∙ room_alone (row_fed (Ok progress)) numbers e p.answers ∙ sym four in
      laid progress (subst (λ (m : ℕ). LaysRow (row_fed (Ok progress)) numbers m after) same p)
