-- What is left to show of `row_stream::short_ways::row_search::walk`, with the invariants beside. Assumes nothing.
use Rattle.std.proofs.Common.{ℕ, max, ◌+◌, ◌-◌, ◌≤◌, ◌<◌, ◌≡◌, List, length, take, drop, not, arith, ap, sym, ◌∙◌}
use lib.ListN.{length-drop}
use lib.Seq.{length-take-le}
use Rattle.rules.specs.Answers.{read_one}
use Rattle.rules.specs.declared.Frame.{Frame}
use Rattle.std.specs.Prelude.{Ok, Some}
use Rattle.stream_rules.specs.Heads.{head_of}
use Rattle.stream_laws.proofs.Course.{head_of_bad}
use Rattle.rows.specs.Rows.{row, row_without, front}
use Rattle.rows.proofs.Outcome.{was_read, was_none}
use Rattle.row_stream.proofs.Told.{zero_ok, some_refused}
use Rattle.search.specs.Sought.{sought_in, Stops}
use Rattle.search.specs.declared.Sought.{Sought}
use Rattle.search.specs.declared.Sought.TheVariants.{Ready}
use Rattle.search.specs.declared.Stop.{Stop}
use Rattle.search.proofs.Stopping.{part_there, whole_there}
use Rattle.search.proofs.Searching.{ready, waiting, onward}
use Rattle.row_stream.specs.RowSought.{stop_of, row_of}
use Rattle.row_stream.proofs.short_ways.row_search.walk.Goals as goal

-- where the loop goes on: the stop that it has come to, and the bytes of a frame there
module _ (family : ℕ) (s : List ℕ) (stop : Stop) (stops : Stops family s 0 0 stop) (n : ℕ) (some : stop.length ≡ Some n) where
  abbrev bytes : List ℕ
  bytes = take (stop.at + n - stop.at) (drop stop.at s)

  -- the frame's bytes are there
  there : (0 < n) × (n ≤ length s - stop.at)
  there = whole_there family s stop.at n (stops.found.whole n some)

  the_part : bytes ≡ take n (drop stop.at s)
  the_part = part_there family s stop.at n

  long_enough : length bytes ≡ n
  long_enough = ap length the_part ∙ length-take-le n (drop stop.at s) (omega (arith, there, length-drop stop.at s))

  -- a good frame is what was sought
  sought : (f : Frame) (reach : ℕ) → reach ≡ max stop.reach (stop.at + n) → read_one family bytes ≡ Ok f
      → Ready (record { start = stop.at; length = n; reach = reach; frame = f }) ≡ sought_in family s
  sought f reach far is =
      ready family s stop stops n f _
      ((stops.found.whole n some).0 ∙ ap (λ (l : List ℕ). head_of n (read_one family l)) (sym the_part) ∙ ap (head_of n) is)
      far

  -- and where it is none, the search goes on
  further_on : (reach : ℕ) → reach ≡ max stop.reach (stop.at + n) → ((f : Frame) → read_one family bytes ≡ Ok f → ⊥) → (q : Stop)
      → Stops family s (stop.at + 1) reach q → Stops family s 0 0 q
  further_on reach far never q next =
      let read = read_one family (take n (drop stop.at s)) in
      onward family s stop stops n some
      (head_of_bad n read (λ f is. never f (ap (read_one family) the_part ∙ is)))
      _ far q next

pub overflow_add-start : goal.overflow_add-start
overflow_add-start c = omega (arith, there _ _ _ c.loop-stop.invariant.0 _ c.in-Some.is)

pub slice_bounds-read_row-end : goal.slice_bounds-read_row-end
slice_bounds-read_row-end c = omega (arith, there _ _ _ c.loop-stop.invariant.0 _ c.in-Some.is)

pub loop-stop-smaller : goal.loop-stop-smaller
loop-stop-smaller c = omega (arith, there _ _ _ c.loop-stop.invariant.0 _ c.in-Some.is, c.next_stop-stop.ensures.walks.ahead)

pub returns-then-is_ok : goal.returns-then-is_ok
returns-then-is_ok c =
    let a = c.args in
    let s = a.s.now in
    let stop = c.loop-stop.stop in
    let stops = c.loop-stop.invariant.0 in
    let n = c.in-Some.length in
    let numbers = c.loop-stop.invariant.1 in
    let found = was_read _ _ _ _ _ _ _ _ c.read_row.ensures (zero_ok c.read_row.result (c.is_ok.ensures.negation ∙ ap not c.if-is_ok.true)) in
    let f = found.frame in
    let is = sought a.reader.now.family s stop stops n c.in-Some.is f _ c.further-reach.ensures found.is-good in
    let r = a.reader.now in
    let count = c.from-count.ensures in
    let to = c.further-to.ensures ∙ ap (max c.further-reach.result) count in
    let at = c.advanced.ensures in
    let skipped = c.advanced-in-Some.ensures in
    record {
      found = (λ i. record { at = stop.at; length = Some n; reach = to i }) ∙ ap (stop_of (length s) r.count) is;
      laid = found.stands
          ∙ (λ i. front (row (to i - count i) (at i) (skipped i) (long_enough r.family s stop stops n c.in-Some.is i) f) (numbers i))
          ∙ ap (λ (x : Sought). front (row_of r (length s) x) a.numbers.now) is;
    }

pub loop-stop-preserved : goal.loop-stop-preserved
loop-stop-preserved c =
    let l = c.loop-stop in
    let none = was_none _ _ _ _ _ _ _ _ c.read_row.ensures (some_refused c.read_row.result (c.is_ok.ensures.negation ∙ ap not c.if-is_ok.false)) (omega (arith, c.requires.room.row, ap length l.invariant.1)) in
    (further_on _ _ l.stop l.invariant.0 _ c.in-Some.is _ c.further-reach.ensures none.0 _ c.next_stop-stop.ensures, none.1 ∙ l.invariant.1)

pub returns : goal.returns
returns c =
    let a = c.args in
    let all = length a.s.now in
    let waits = c.lay_waiting.ensures in
    let is = waiting a.reader.now.family a.s.now c.loop-stop.stop c.loop-stop.invariant.0 c.in_default.is in
    record {
      found = waits.found ∙ ap (stop_of all a.reader.now.count) is;
      laid = waits.laid
          ∙ ap (front (row_without 5 (all - a.reader.now.count))) c.loop-stop.invariant.1
          ∙ ap (λ (x : Sought). front (row_of a.reader.now all x) a.numbers.now) is;
    }
