-- What the walks along the starts give, in the words of the rules.
use Rattle.std.specs.Prelude.{ℕ, suc, max, ◌+◌, ◌≤◌, ◌<◌, ◌≡◌, Bool, not, eqb, List, length, take, drop, get_or, Option, Some, None}
use Rattle.rules.specs.Answers.{read_one}
use Rattle.stream_rules.specs.Heads.{shortest_frame, wait, bad, head_of, head, at_close}
use Rattle.stream_rules.specs.Rule.{look, by_look}
use Rattle.stream_laws.specs.Settled.{settled, reach}
use Rattle.search.specs.declared.Sought as SoughtType
use Rattle.search.specs.declared.Sought.TheVariants.{Ready, Waiting}
use Rattle.search.specs.declared.Stop.{Stop}
use Rattle.search.specs.declared.First.{First}

-- What stands at a stop: behind the last start nothing; else an undecided start, or as many bytes as a frame there has, of
-- which the reader of one frame decides.
pub record AtStop (family : ℕ) (bs : List ℕ) (r : Stop) : Type 0 where
  pub waits : r.length ≡ None → r.at < length bs → head family (drop r.at bs) ≡ wait
  pub whole : (n : ℕ) → r.length ≡ Some n
      → (head family (drop r.at bs) ≡ head_of n (read_one family (take n (drop r.at bs)))) × (settled family (drop r.at bs) ≡ n)

-- Two counts of how far bytes reach are the same for a frame that starts here or further on: it has at least as many bytes
-- as the shortest, is settled by all of its own, and the further of the two counts; so what does not reach behind the
-- shortest makes no difference.
abbrev pub SameFor : ℕ → ℕ → ℕ → Type 0
SameFor at on far = max on (at + shortest_frame) ≡ max far (at + shortest_frame)

-- A walk from a place on: the starts that it has passed are bad, and a count of how far the bytes reach that was right where it
-- began, for frames from there on, is right where it has come to.
pub record Walks (family : ℕ) (bs : List ℕ) (from far at on : ℕ) : Type 0 where
  pub ahead : from ≤ at
  pub within : from ≤ length bs → at ≤ length bs
  pub passes : (j : ℕ) → from ≤ j → j < at → head family (drop j bs) ≡ bad
  pub reaches : SameFor from far (reach family from bs) → SameFor at on (reach family at bs)

-- another byte than a mark
abbrev pub is_other : ℕ → ℕ → Bool
is_other mark b = not (eqb b mark)

-- from a place to another no byte is a mark
abbrev pub Unmarked : ℕ → List ℕ → ℕ → ℕ → Type 0
Unmarked mark bs from to = (j : ℕ) → from ≤ j → j < to → get_or bs j 0 ≡ mark → ⊥

-- the first stop from a place on
pub record Stops (family : ℕ) (bs : List ℕ) (from far : ℕ) (r : Stop) : Type 0 where
  pub walks : Walks family bs from far r.at r.reach
  pub found : AtStop family bs r

-- the first start that is not bad
unfoldable pub sought_in : ℕ → List ℕ → SoughtType.Sought
sought_in family bs =
    by_look (look (head family) bs)
    (λ k n f behind. Ready (record { start = k; length = n; reach = reach family (suc k) bs; frame = f }))
    (λ k rest. Waiting k)

-- the first good frame from a place on, at close
unfoldable pub first_from : ℕ → List ℕ → ℕ → Option First
first_from family bs from =
    by_look (look (at_close (head family)) (drop from bs)) (λ k n f behind. Some (record { start = from + k; length = n; frame = f })) (λ k rest. None)
