-- A search that has walked to a stop: what stands there is what is sought, or the walk goes on behind it; and where a report has
-- begun at the first byte, the first stop is there.
-- Assumes nothing.
use Prim.Native.Nat.{ℕ, suc, max, ◌+◌, ◌≤◌, ◌<◌}
use mathlib.Core.Path.{◌≡◌, refl, sym, ap, subst, ◌∙◌}
use mathlib.Core.List.{List}
use native.Mathlib.Decide.{dec_lt, ℕ_discrete}
use native.Mathlib.Omega.{arith}
use lib.ListN.{length, take, drop}
use Rattle.std.specs.Prelude.{Some, None}
use Rattle.rules.specs.Status.{report_length_in}
use Rattle.rules.specs.Answers.{read_one}
use Rattle.rules.specs.declared.Frame.{Frame}
use Rattle.stream_rules.specs.Heads.{needs, bad, good, head_of, head}
use Rattle.stream_rules.specs.Rule.{Look, by_look}
use Rattle.stream_laws.specs.Settled.{reach}
use Rattle.stream_laws.proofs.Heads.{shortest_of_all, GoodHead, good_head}
use Rattle.stream_laws.proofs.PacketStarts.{needs_report, Marks, bytes_missing, all_there}
use Rattle.spe.proofs.Beginning.{Begun}
use Rattle.stream_laws.proofs.Families.{facts}
use Rattle.stream_laws.proofs.Starts.{BadBefore, look_at_good, look_at_wait, look_at_end}
use Rattle.search.specs.Sought.{SameFor, sought_in, Stops}
use Rattle.search.proofs.Stopping.{begins, goes_on, followed, whole_there, refused_whole, stops_waiting, stops_to_read}
use Rattle.search.specs.declared.Sought.{Sought}
use Rattle.search.specs.declared.Sought.TheVariants.{Ready, Waiting}
use Rattle.search.specs.declared.Stop.{Stop}

-- what a look at the bytes says, as an answer
abbrev answer : ℕ → List ℕ → Look → Sought
answer family s l =
    by_look l (λ k n f behind. Ready (record { start = k; length = n; reach = reach family (suc k) s; frame = f })) (λ k rest. Waiting k)

module _ (family : ℕ) (s : List ℕ) (p : Stop) (stops : Stops family s 0 0 p) where
  -- the starts before the stop are bad
  before : BadBefore (head family) s p.at
  before j low = stops.walks.passes j (omega arith) low

  within : p.at ≤ length s
  within = stops.walks.within (omega arith)

  -- how far the bytes reach that settled them and a frame there
  counted : (n : ℕ) (f : Frame) → GoodHead family (drop p.at s) n f → max p.reach (p.at + n) ≡ reach family (suc p.at) s
  unfolding reach
  counted n f g =
      let same : SameFor p.at p.reach (reach family p.at s) = stops.walks.reaches refl in
      omega (arith, same, g.long, shortest_of_all family, g.settles)

  pub ready : (n : ℕ) (f : Frame) (r : ℕ) → head family (drop p.at s) ≡ good n f → r ≡ max p.reach (p.at + n)
      → Ready (record { start = p.at; length = n; reach = r; frame = f }) ≡ sought_in family s
  unfolding sought_in
  ready n f r here is =
      ap (λ (to : ℕ). Ready (record { start = p.at; length = n; reach = to; frame = f })) (is ∙ counted n f (good_head family (drop p.at s) n f here))
      ∙ ap (answer family s) (sym (look_at_good (facts family) s p.at n f before here))

  -- an undecided start, or the end
  pub waiting : p.length ≡ None → Waiting p.at ≡ sought_in family s
  unfolding sought_in
  waiting none =
      elim (dec_lt p.at (length s)) [
        | yes there ↦ ap (answer family s) (sym (look_at_wait (head family) s p.at within before (stops.found.waits none there)))
        | no end ↦
            let at_end : p.at ≡ length s = omega (arith, within) in
            ap Waiting at_end ∙ ap (answer family s) (sym (look_at_end (head family) s (subst (λ (n : ℕ). BadBefore (head family) s n) at_end before)))
      ]

  -- bytes that are refused: the walk goes on behind the stop
  pub onward : (n : ℕ) → p.length ≡ Some n → head_of n (read_one family (take n (drop p.at s))) ≡ bad → (far : ℕ) → far ≡ max p.reach (p.at + n)
      → (q : Stop) → Stops family s (p.at + 1) far q → Stops family s 0 0 q
  onward n some refused far to q next =
      let whole = stops.found.whole n some in
      let there = whole_there family s p.at n whole in
      record {
        walks = followed family s 0 0 (p.at + 1) far q.at q.reach
            (goes_on family s 0 0 p.at p.reach far n stops.walks (omega (arith, there.0, there.1)) (refused_whole family s p.at n whole refused) to)
            next.walks;
        found = next.found;
      }

-- The marks and the count of a report at the first byte: it is undecided, or whole.
module _ (bs : List ℕ) (b : Begun bs) where
  marks : Marks 1 3 bs
  marks i low =
      elim (ℕ_discrete i 0) [
        | yes first ↦ rw first b.one
        | no more ↦ elim (ℕ_discrete i 1) [
          | yes second ↦ rw second b.two
          | no last ↦ let third : i ≡ 2 = omega arith in rw third b.three
        ]
      ]

  needed : needs 1 bs ≡ report_length_in bs
  needed = needs_report 1 bs refl b.count

  pub begun_waits : length bs < report_length_in bs → Stops 1 bs 0 0 (record { at = 0; length = None; reach = 0 })
  begun_waits few = stops_waiting 1 bs 0 0 0 0 (begins 1 bs 0 0) (bytes_missing 1 refl bs b.there marks (report_length_in bs) needed few)

  pub begun_whole : report_length_in bs ≤ length bs → Stops 1 bs 0 0 (record { at = 0; length = Some (report_length_in bs); reach = 0 })
  begun_whole enough =
      stops_to_read 1 bs 0 0 0 0 (report_length_in bs) (begins 1 bs 0 0)
      (all_there 1 refl bs b.there marks (report_length_in bs) needed (omega arith) enough)
