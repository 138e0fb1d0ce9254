-- A walk along the starts: how it begins, goes on over bad starts, one or several, and is followed by another; and what
-- stands where it stops.
-- Assumes nothing.
use Prim.Native.Nat.{ℕ, zero, suc, max, ◌+◌, ◌-◌, ◌≤◌, ◌<◌}
use mathlib.Core.Path.{◌≡◌, sym, ap, subst, ◌∙◌}
use mathlib.Core.Bool.{true}
use mathlib.Core.List.{List}
use native.Mathlib.Decide.{dec_lt, ℕ_discrete}
use native.Mathlib.Nat.{add-zero, add-suc}
use native.Mathlib.Numerals.{add-one}
use native.Mathlib.Omega.{arith}
use lib.ListN.{length, take, drop, length-drop}
use lib.Seq.{drop-drop}
use Rattle.std.specs.Prelude.{Option, Some, None}
use Rattle.rules.specs.Answers.{read_one}
use Rattle.stream_rules.specs.Heads.{is_spe, shortest_frame, mark_of, wait, bad, head_of, head}
use Rattle.stream_laws.specs.Settled.{settled, reach}
use Rattle.stream_laws.proofs.Course.{head_of_decided}
use Rattle.stream_laws.proofs.Heads.{settling}
use Rattle.search.specs.Sought.{AtStop, Walks, Unmarked, Stops}
use Rattle.search.proofs.Passing.{SettledBy, BadBy, unmarked}

module _ (family : ℕ) (bs : List ℕ) where
  -- what stands at a place, with as many bytes as a frame there has
  abbrev pub WholeAt : ℕ → ℕ → Type 0
  WholeAt at n = (head family (drop at bs) ≡ head_of n (read_one family (take n (drop at bs)))) × (settled family (drop at bs) ≡ n)

  -- the part of the bytes from the place on
  pub part_there : (at n : ℕ) → take (at + n - at) (drop at bs) ≡ take n (drop at bs)
  part_there at n = let same : at + n - at ≡ n = omega arith in ap (λ (k : ℕ). take k (drop at bs)) same

  pub begins : (from far : ℕ) → Walks family bs from far from far
  begins from far = record { ahead = omega arith; within = λ h. h; passes = λ j p q. absurd (omega arith); reaches = λ e. e }

  pub goes_on : (from far at on next d : ℕ) → Walks family bs from far at on → at < length bs → SettledBy family (drop at bs) d → next ≡ max on (at + d)
      → Walks family bs from far (at + 1) next
  unfolding reach
  goes_on from far at on next d w there is_bad to = record {
    ahead = omega (arith, w.ahead);
    within = λ h. omega (arith, there);
    passes = λ j p q. elim (dec_lt j at) [
      | yes before ↦ w.passes j p before
      | no here ↦ let same : at ≡ j = omega arith in rw (← same) is_bad.0
    ];
    reaches = λ e.
        let on_one : reach family (at + 1) bs ≡ max (reach family at bs) (at + d) =
        ap (λ (k : ℕ). reach family k bs) (add-one at) ∙ ap (λ (k : ℕ). max (reach family at bs) (at + k)) is_bad.1 in
        omega (arith, w.reaches e, to, on_one);
  }

  -- over some starts at once, of which none reaches behind a frame that starts further on
  no_farther : (at k top : ℕ) → ((j : ℕ) → j < k → j + settled family (drop (at + j) bs) ≤ top)
      → (reach family at bs ≤ reach family (at + k) bs) × (reach family (at + k) bs ≤ max (reach family at bs) (at + top))
  unfolding reach
  no_farther at zero top each = let same : reach family (at + 0) bs ≡ reach family at bs = ap (λ (k : ℕ). reach family k bs) (add-zero at) in (omega (arith, same), omega (arith, same))
  no_farther at (suc k) top each =
      let before = no_farther at k top (λ j p. each j (omega arith)) in
      let last = each k (omega arith) in
      let more : reach family (at + suc k) bs ≡ max (reach family (at + k) bs) (at + k + settled family (drop (at + k) bs)) =
      ap (λ (n : ℕ). reach family n bs) (add-suc at k) in
      (omega (arith, before, more), omega (arith, before, last, more))

  skips : (from far at on k : ℕ) → Walks family bs from far at on → at + k ≤ length bs
      → ((j : ℕ) → j < k → BadBy family (drop (at + j) bs) (k + shortest_frame - j)) → Walks family bs from far (at + k) on
  skips from far at on k w there each = record {
    ahead = omega (arith, w.ahead);
    within = λ h. there;
    passes = λ j p q. elim (dec_lt j at) [
      | yes before ↦ w.passes j p before
      | no here ↦ let same : at + (j - at) ≡ j = omega arith in rw same at (each (j - at) (omega arith)).0
    ];
    reaches = λ e.
        let near = no_farther at k (k + shortest_frame) (λ j p. omega (arith, (each j p).1)) in
        omega (arith, w.reaches e, near);
  }

  -- those of a bad start and of some behind it
  pub passes_over : (from far at on k : ℕ) → Walks family bs from far at on → at + k ≤ length bs → BadBy family (drop at bs) (k + shortest_frame)
      → ((j : ℕ) → 0 < j → j < k → BadBy family (drop j (drop at bs)) (k + shortest_frame - j)) → Walks family bs from far (at + k) on
  passes_over from far at on k w there here behind =
      skips from far at on k w there
      (λ j p. elim (ℕ_discrete j 0) [
        | yes first ↦ let same : at ≡ at + j = omega (arith, first) in rw (← same) (here.0, omega (arith, here.1, first))
        | no later ↦ rw (← drop-drop j at bs) (behind j (omega arith) p)
      ])

  -- of an SPE family, those at bytes that are no marks
  pub passes_unmarked : (spe : is_spe family ≡ true) (from far at on to : ℕ) → Walks family bs from far at on → at ≤ to → to ≤ length bs
      → Unmarked (mark_of family) bs at to → Walks family bs from far to on
  passes_unmarked spe from far at on to w ahead there none =
      let same : at + (to - at) ≡ to = omega arith in
      subst (λ (n : ℕ). Walks family bs from far n on) same
      (skips from far at on (to - at) w (omega arith)
      (λ j p.
      let h = unmarked family spe bs (at + j) (omega arith) (none (at + j) (omega arith) (omega arith)) in
      (h.0, omega (arith, h.1))))

  -- and of a bad start that is counted, with those behind it
  pub counts_and_passes : (from far at on next d k : ℕ) → Walks family bs from far at on → at + (k + 1) ≤ length bs → SettledBy family (drop at bs) d → next ≡ max on (at + d)
      → ((j : ℕ) → 0 < j → j < k + 1 → BadBy family (drop j (drop at bs)) (k + 1 + shortest_frame - j)) → Walks family bs from far (at + (k + 1)) next
  counts_and_passes from far at on next d k w there is_bad to behind =
      let same : at + 1 + k ≡ at + (k + 1) = omega arith in
      subst (λ (n : ℕ). Walks family bs from far n next) same
      (skips from far (at + 1) next k (goes_on from far at on next d w (omega arith) is_bad to) (omega arith)
      (λ j p.
      let one : at + 1 + j ≡ at + (j + 1) = omega arith in
      let h = behind (j + 1) (omega arith) (omega arith) in
      rw (one, ← drop-drop (j + 1) at bs) (h.0, omega (arith, h.1))))

  pub followed : (from far at on to next : ℕ) → Walks family bs from far at on → Walks family bs at on to next → Walks family bs from far to next
  followed from far at on to next w x = record {
    ahead = omega (arith, w.ahead, x.ahead);
    within = λ h. x.within (w.within h);
    passes = λ j p q. elim (dec_lt j at) [
      | yes before ↦ w.passes j p before
      | no here ↦ x.passes j (omega arith) q
    ];
    reaches = λ e. x.reaches (w.reaches e);
  }

  -- a decided start is settled by bytes that are there
  settled_there : (at d : ℕ) → (head family (drop at bs) ≡ wait → ⊥) → settled family (drop at bs) ≡ d → (0 < d) × (d ≤ length bs - at)
  settled_there at d decided is =
      let k = settling family (drop at bs) decided in
      (omega (arith, k.some, is), omega (arith, k.there, is, length-drop at bs))

  pub whole_there : (at n : ℕ) → WholeAt at n → (0 < n) × (n ≤ length bs - at)
  whole_there at n h = settled_there at n (λ e. head_of_decided n (read_one family (take n (drop at bs))) (sym h.0 ∙ e)) h.1

  -- where the reader of one frame refuses those bytes, the start is bad, and they settled it
  pub refused_whole : (at n : ℕ) → WholeAt at n → head_of n (read_one family (take n (drop at bs))) ≡ bad → SettledBy family (drop at bs) n
  refused_whole at n h e = (h.0 ∙ e, h.1)

  -- the stops of a walk: an undecided start, the end, and bytes to read
  stops : (from far at on : ℕ) (long : Option ℕ) → Walks family bs from far at on → AtStop family bs (record { at = at; length = long; reach = on })
      → Stops family bs from far (record { at = at; length = long; reach = on })
  stops from far at on long w f = record { walks = w; found = f }

  pub stops_waiting : (from far at on : ℕ) → Walks family bs from far at on → head family (drop at bs) ≡ wait → Stops family bs from far (record { at = at; length = None; reach = on })
  stops_waiting from far at on w e = stops from far at on None w (record { waits = λ none there. e; whole = λ n some. (cc, cc) })

  pub stops_at_end : (from far at on : ℕ) → Walks family bs from far at on → length bs ≤ at → Stops family bs from far (record { at = at; length = None; reach = on })
  stops_at_end from far at on w end = stops from far at on None w (record { waits = λ none there. absurd (omega arith); whole = λ n some. (cc, cc) })

  pub stops_to_read : (from far at on n : ℕ) → Walks family bs from far at on → WholeAt at n → Stops family bs from far (record { at = at; length = Some n; reach = on })
  stops_to_read from far at on n w h = stops from far at on (Some n) w (record { waits = λ none there. cc; whole = λ m is. let same : n ≡ m = cc in subst (WholeAt at) same h })
