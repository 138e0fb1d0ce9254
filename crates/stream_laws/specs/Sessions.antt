-- Demand 3's sessions, and what is promised of one: a reader, a stream cut into calls anywhere, the untaken rest always
-- offered again, then closed and drained.
use Rattle.std.specs.Prelude.{ℕ, ◌+◌, ◌≤◌, ◌≡◌, Bool, true, false, List, [], ◌∷◌, ◌++◌, map, length, take, drop}
use Rattle.rules.specs.declared.Refusal.{Refusal}
use Rattle.stream_rules.specs.declared.Progress.{Progress}
use Rattle.stream_rules.specs.declared.Progress.TheVariants.{Done, More, Ready}
use Rattle.std.specs.Prelude.{Err, Result}
use Rattle.rules.specs.Bytes.{every}
use Rattle.stream_rules.specs.Heads.{longest}
use Rattle.stream_rules.specs.Rule.{Found}
use Rattle.stream_rules.specs.Streams.{wrap, Feeds, Shuts}
use Rattle.stream_rules.specs.Lister.{frames}
use Rattle.stream_rules.specs.declared.Reader.{Reader}
use Rattle.stream_rules.specs.declared.Fed.{Fed}
use Rattle.stream_rules.specs.declared.Turned.{Turned}
use Rattle.std.specs.Prelude.{Ok}

-- the bytes that a call took, by its answer
abbrev pub taken_of : (Result Progress Refusal) → ℕ
taken_of (Ok (Ready r)) = r.taken
taken_of (Ok (More n)) = n
taken_of (Ok (Done n)) = n
taken_of (Err n) = 0

-- After the close: calls that offer nothing, at least until the answer is done, with their answers in order. Closing
-- again and calling on, when it is done, are allowed.
pub data Draining : Reader → List (Result Progress Refusal) → Type 0 where
  calls : {r : Reader} {answers : List (Result Progress Refusal)} (a : Fed) → Feeds r [] a → Draining a.reader answers → Draining r (a.answer ∷ answers)
  closes_again : {r : Reader} {answers : List (Result Progress Refusal)} (t : Turned) → Shuts r t → Draining t.reader answers → Draining r answers
  ends : {r : Reader} (a : Fed) (n : ℕ) → Feeds r [] a → a.answer ≡ Ok (Done n) → Draining r (a.answer ∷ [])

-- From a reader and what is left of the stream: calls, each of which offers a number of bytes of what is left, or all of
-- them if there are fewer, and whatever it did not take is left; then, when nothing is left, the close. The lists are
-- the numbers offered and the answers of all calls, in order.
pub data Session : Reader → List ℕ → List ℕ → List (Result Progress Refusal) → Type 0 where
  calls : {r : Reader} {left lengths : List ℕ} {answers : List (Result Progress Refusal)} (n : ℕ) (a : Fed) → Feeds r (take n left) a
      → Session a.reader (drop (taken_of a.answer) left) lengths answers
      → Session r left (n ∷ lengths) (a.answer ∷ answers)
  closes : {r : Reader} {answers : List (Result Progress Refusal)} (t : Turned) → Shuts r t → Draining t.reader answers → Session r [] [] answers

-- A session that follows a cut of the stream: its pieces in order, each offered until all of it is taken; then the close. Of
-- no pieces it is the close at once.
abbrev pub to_offer : List ℕ → List (List ℕ) → List (List ℕ)
to_offer [] pieces = pieces
to_offer (b ∷ rest) pieces = (b ∷ rest) ∷ pieces

pub data Following : Reader → List (List ℕ) → List (Result Progress Refusal) → Type 0 where
  calls : {r : Reader} {pieces : List (List ℕ)} {answers : List (Result Progress Refusal)} (piece : List ℕ) (a : Fed) → Feeds r piece a
      → Following a.reader (to_offer (drop (taken_of a.answer) piece) pieces) answers
      → Following r (piece ∷ pieces) (a.answer ∷ answers)
  closes : {r : Reader} {answers : List (Result Progress Refusal)} (t : Turned) → Shuts r t → Draining t.reader answers → Following r [] answers

-- the stream that is cut
abbrev pub stream_of : List (List ℕ) → List ℕ
stream_of [] = []
stream_of (piece ∷ pieces) = piece ++ stream_of pieces

-- the frames that the answers hand out, with their start, the bytes skipped before them, and their length
abbrev pub handed : List (Result Progress Refusal) → List Found
handed [] = []
handed (Ok (Ready r) ∷ answers) = record { start = r.start; skipped = r.skipped; length = r.length; frame = r.frame } ∷ handed answers
handed (Ok (More n) ∷ answers) = handed answers
handed (Ok (Done n) ∷ answers) = handed answers
handed (Err n ∷ answers) = handed answers

-- a frame of the rule with its two counts modulo 2^32
abbrev pub wrapped : Found → Found
wrapped f = record { start = wrap f.start; skipped = wrap f.skipped; length = f.length; frame = f.frame }

-- the bytes that all the calls took
abbrev pub taken_in : List (Result Progress Refusal) → ℕ
taken_in [] = 0
taken_in (a ∷ answers) = taken_of a + taken_in answers

-- Each frame that is handed out, of those of the rule in order, is handed out before a byte is taken beyond the top-th,
-- counted from the frame's first; `taken` bytes were taken before.
abbrev pub InTime : ℕ → ℕ → List (Result Progress Refusal) → List Found → Type 0
InTime top taken [] fs = Unit {0}
InTime top taken (Ok (Ready r) ∷ answers) [] = ⊥
InTime top taken (Ok (Ready r) ∷ answers) (f ∷ fs) = (taken + r.taken ≤ f.start + top) × InTime top (taken + r.taken) answers fs
InTime top taken (Ok (More n) ∷ answers) fs = InTime top (taken + n) answers fs
InTime top taken (Ok (Done n) ∷ answers) fs = InTime top (taken + n) answers fs
InTime top taken (Err n ∷ answers) fs = InTime top taken answers fs

abbrev pub is_no_refusal : (Result Progress Refusal) → Bool
is_no_refusal (Ok (Ready r)) = true
is_no_refusal (Ok (More n)) = true
is_no_refusal (Ok (Done n)) = true
is_no_refusal (Err n) = false

-- What answers tell when `left` bytes of a stream are still to be taken, `taken` were before, and the rule has still to
-- find the frames `fs`, none longer than `top`: all of these frames are handed out, each once and in order; every byte is
-- taken; no frame is late; and no call is refused.
pub record Tells (top taken left : ℕ) (fs : List Found) (answers : List (Result Progress Refusal)) : Type 0 where
  pub list : handed answers ≡ map wrapped fs
  pub all_taken : taken_in answers ≡ left
  pub in_time : InTime top taken answers fs
  pub none_refused : every is_no_refusal answers ≡ true

-- Demand 3: the answers of a session tell the frames that the rule finds in the whole stream.
abbrev pub Demand3 : ℕ → List ℕ → List (Result Progress Refusal) → Type 0
Demand3 family stream answers = Tells (longest family) 0 (length stream) (frames family stream) answers
