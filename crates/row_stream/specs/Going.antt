-- A call that decides nothing, because a report or a sentence that has begun goes on.
use Rattle.std.specs.Prelude.{ℕ, ◌+◌, ◌-◌, ◌≤◌, ◌<◌, ◌≡◌, true, List, ◌++◌, length, get_or}
use Prim.Native.Char.{code}
use Rattle.rules.specs.Bytes.{part, every}
use Rattle.rules.specs.Sentences.{longest_payload}
use Rattle.rules.specs.Status.{report_length}
use Rattle.stream_rules.specs.Heads.{sentence_brackets, is_inner}
use Rattle.stream_rules.specs.Streams.{held_of}
use Rattle.stream_rules.specs.declared.Reader.{Reader}
use Rattle.spe.specs.Ends.{begins_report}
use Rattle.search.specs.Sought.{sought_in}
use Rattle.search.specs.declared.Sought.TheVariants.{Waiting}
use Rattle.row_stream.specs.Short.{IsFew}

-- A report begins with the held bytes, and fewer bytes are there than it has.
pub record ReportGoesOn (r : Reader) (others : ℕ) : Type 0 where
  pub short : r.count + others < report_length
  pub begun : begins_report (held_of r) ≡ true

-- A `$` is held, all behind it are payload bytes, and they are no more than a payload has.
pub record SentenceGoesOn (r : Reader) (others : List ℕ) : Type 0 where
  pub some : 1 ≤ r.count
  pub short : r.count + length others ≤ longest_payload
  pub dollar : get_or r.held 0 0 ≡ code "$"
  pub payload_held : every (is_inner sentence_brackets) (part 1 (r.count - 1) r.held) ≡ true
  pub payload_offered : every (is_inner sentence_brackets) others ≡ true

-- In the words of the rules: the call is on few bytes, and the first start stays undecided.
pub record GoesOn (r : Reader) (others : List ℕ) : Type 0 where
  pub few : IsFew r (length others)
  pub undecided : sought_in r.family (held_of r ++ others) ≡ Waiting 0
