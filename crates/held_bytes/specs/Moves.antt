-- What a call leaves of a lent reader, in the words of the rules.
use Rattle.std.specs.Prelude.{ℕ, ◌+◌, ◌^◌, ◌≤◌, ◌<◌, cond, not, leb, List, length, take, drop, Result, Ok, Err}
use Rattle.rules.specs.Answers.{is_family}
use Rattle.rules.specs.declared.Refusal.{Refusal}
use Rattle.rules.specs.declared.Refusal.TheVariants.{NoFamily, HoldsTooMuch}
use Rattle.rules.specs.declared.Frame.{Frame}
use Rattle.stream_rules.specs.Heads.{longest, head}
use Rattle.stream_rules.specs.Rule.{Call, gives, wants, call}
use Rattle.stream_rules.specs.Streams.{wrap, holds}
use Rattle.stream_rules.specs.declared.Reader.{Reader}
use Rattle.stream_rules.specs.declared.Progress.{Progress}
use Rattle.stream_rules.specs.declared.Progress.TheVariants.{Done, More, Ready}
use Rattle.stream_rules.specs.declared.Fed.{Fed}
use Rattle.stream_rules.specs.declared.Turned.{Turned}

-- A call that left this reader and this answer gives both back.
abbrev pub fed_at : Reader → Result Progress Refusal → Fed
fed_at r a = record { reader = r; answer = a }

-- A close that left this reader and this outcome gives both back.
abbrev pub shut_at : Reader → Result Unit Refusal → Turned
shut_at r o = record { reader = r; outcome = o }

-- a reader with its places as they are, and so many of them used
abbrev pub counted_on : Reader → ℕ → ℕ → ℕ → Reader
counted_on r left at skipped = record { family = r.family; closed = r.closed; count = left; held = r.held; at = wrap at; skipped = wrap skipped }

-- A frame is handed out, behind so many bytes that were passed, and so many are left.
abbrev pub handed_out : Reader → ℕ → ℕ → ℕ → Frame → ℕ → Fed
handed_out r taken passed length f left = record {
  reader = counted_on r left (r.at + (passed + length)) 0;
  answer = Ok (Ready (record {
    taken = taken;
    start = wrap (r.at + passed);
    skipped = wrap (r.skipped + passed);
    length = length;
    frame = f;
  }));
}

-- More is wanted.
abbrev pub wanting : Reader → ℕ → ℕ → ℕ → Fed
wanting r taken passed left = record { reader = counted_on r left (r.at + passed) (r.skipped + passed); answer = Ok (More taken) }

-- Done, with these bytes dropped.
abbrev pub done_by : Reader → ℕ → Fed
done_by r dropped = record { reader = counted_on r 0 (r.at + dropped) (r.skipped + dropped); answer = Ok (Done 0) }

-- the call on a buffer whose first bytes are those held
abbrev pub call_on : Reader → List ℕ → Call
call_on r work = call (head r.family) (take r.count work) (drop r.count work)

-- a call behind t bytes that were taken before it
abbrev pub later : ℕ → Call → Call
later t (gives taken k n f kept) = gives (t + taken) k n f kept
later t (wants taken k kept) = wants (t + taken) k kept

-- Refusal 1, then 6, of a reader that no call serves.
abbrev pub served : Reader → Result Unit Refusal
served r = cond (not (is_family r.family)) (Err NoFamily) (cond (not (leb r.count (holds r.family))) (Err HoldsTooMuch) (Ok tt))

-- The reader holds no more than one of its family may.
abbrev pub MayHold : Reader → Type 0
MayHold r = r.count < longest r.family

-- The bytes held are among these, and no more than may be; and they can be counted behind those taken before.
pub record Counted (r : Reader) (taken : ℕ) (work : List ℕ) : Type 0 where
  pub there : r.count ≤ length work
  pub low : MayHold r
  pub fits : taken + length work < 2 ^ 64
