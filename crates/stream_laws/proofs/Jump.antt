-- How code that looks at all the bytes at once finds the byte that made a frame ready: it is the last of those that settle
-- the frame's start and the starts before it. With the bytes up to there each of these starts is what it is in the whole;
-- with a byte less one of them is still undecided, so that no frame is ready. Assumes nothing.
use Prim.Native.Nat.{ℕ, zero, suc, max, ◌+◌, ◌-◌, ◌≤◌, ◌<◌}
use mathlib.Core.Path.{◌≡◌, refl, sym, ap, subst, ◌∙◌}
use mathlib.Core.List.{List, [], ◌∷◌, ◌++◌}
use native.Mathlib.Nat.{sub-zero, zero-sub, suc-sub-suc, max-le}
use native.Mathlib.Decide.{dec_lt}
use native.Mathlib.Omega.{arith}
use lib.ListN.{length, take, drop, length-append, length-drop, take-append-drop}
use lib.Seq.{take-nil, take-append-add, length-slice}
use Rattle.rules.specs.declared.Frame.{Frame}
use Rattle.stream_rules.specs.Heads.{longest, wait, head}
use Rattle.stream_laws.specs.Settled.{settled, reach}
use Rattle.stream_rules.specs.Rule.{Look, ready, waiting, look, gives, call}
use Rattle.stream_laws.proofs.Course.{Settles}
use Rattle.stream_laws.proofs.Heads.{settling, good_head}
use Rattle.stream_laws.proofs.Looks.{look_ready, further, look_on}
use Rattle.stream_laws.proofs.Calls.{Waits, Handed, gives_short, handed_call}
use Rattle.stream_laws.proofs.States.{longest_fits}
use Rattle.stream_laws.proofs.Families.{facts}
use Rattle.stream_laws.proofs.Starts.{look_at_good}

-- a start of a front is a front of the start
pub drop_take : (j p : ℕ) (bs : List ℕ) → drop j (take p bs) ≡ take (p - j) (drop j bs)
drop_take zero p bs = simp sub-zero
drop_take (suc j) zero bs = simp zero-sub
drop_take (suc j) (suc p) [] = sym (take-nil (suc p - suc j))
drop_take (suc j) (suc p) (b ∷ bs) = rw suc-sub-suc (drop_take j p bs)

-- The reach of the first m starts is that of the one which reaches farthest.
module _ (family : ℕ) (bs : List ℕ) where
  covers_each : (m j : ℕ) → j < m → j + settled family (drop j bs) ≤ reach family m bs
  unfolding reach
  covers_each zero j p = absurd (omega arith)
  covers_each (suc m) j p =
      elim (dec_lt j m) [
        | yes before ↦ omega (arith, covers_each m j before)
        | no last ↦ let same : j ≡ m = omega arith in rw same (omega arith)
      ]

  no_farther : (m top : ℕ) → ((j : ℕ) → j < m → j + settled family (drop j bs) ≤ top) → reach family m bs ≤ top
  unfolding reach
  no_farther zero top each = omega arith
  no_farther (suc m) top each = max-le (no_farther m top (λ j p. each j (omega arith))) (each m (omega arith))

  farther : (m p : ℕ) → p < reach family m bs → (j : ℕ) × (j < m) × (p < j + settled family (drop j bs))
  unfolding reach
  farther zero p beyond = absurd (omega arith)
  farther (suc m) p beyond =
      elim (dec_lt p (m + settled family (drop m bs))) [
        | yes last ↦ (m, omega arith, last)
        | no before ↦ let earlier = farther m p (omega arith) in (earlier.0, omega (arith, earlier.1), earlier.2)
      ]

-- Where a frame is ready, its start and those before it are decided.
decided_to : (family : ℕ) (bs : List ℕ) (k n : ℕ) (f : Frame) (behind : List ℕ) → look (head family) bs ≡ ready k n f behind
    → (j : ℕ) → j < suc k → head family (drop j bs) ≡ wait → ⊥
decided_to family bs k n f behind e j p undecided =
    let first = look_ready (head family) bs k n f behind e in
    elim (dec_lt j k) [
      | yes before ↦ let z : ◌≡◌ {A = ℕ} 0 1 = cc (first.before j before) in omega arith
      | no last ↦ let same : j ≡ k = omega arith in let z : ◌≡◌ {A = ℕ} 0 1 = cc first.here in omega arith
    ]

module _ (family : ℕ) (bs : List ℕ) (k n : ℕ) (f : Frame) (behind : List ℕ) (e : look (head family) bs ≡ ready k n f behind) where
  settled_to : (j : ℕ) → j < suc k → Settles family (drop j bs) (settled family (drop j bs)) (head family (drop j bs))
  settled_to j p = settling family (drop j bs) (decided_to family bs k n f behind e j p)

  -- The bytes that settle them are there, and the frame's are among them.
  reach_there : reach family (suc k) bs ≤ length bs
  reach_there = no_farther family bs (suc k) (length bs) (λ j p. omega (arith, (settled_to j p).some, (settled_to j p).there, length-drop j bs))

  reach_frame : k + n ≤ reach family (suc k) bs
  reach_frame =
      let here = (look_ready (head family) bs k n f behind e).here in
      rw (good_head family (drop k bs) n f here).settles at (covers_each family bs (suc k) k (omega arith))

  -- With them, each start is what it is in the whole, so the frame is ready.
  same_start : (p : ℕ) → reach family (suc k) bs ≤ p → (j : ℕ) → j < suc k → head family (drop j (take p bs)) ≡ head family (drop j bs)
  same_start p enough j q = rw drop_take ((settled_to j q).after (p - j) (omega (arith, covers_each family bs (suc k) j q)))

  ready_with : (p : ℕ) → reach family (suc k) bs ≤ p → look (head family) (take p bs) ≡ ready k n f (drop (k + n) (take p bs))
  ready_with p enough =
      let first = look_ready (head family) bs k n f behind e in
      look_at_good (facts family)
      (take p bs)
      k
      n
      f
      (λ j q. same_start p enough j (omega arith) ∙ first.before j q)
      (same_start p enough k (omega arith) ∙ first.here)

  -- With fewer, one start is undecided; a frame that were ready would be the same one, so no start up to it could be.
  one_open : (p : ℕ) → p < reach family (suc k) bs → (j : ℕ) × (j < suc k) × (head family (drop j (take p bs)) ≡ wait)
  one_open p few =
      let far = farther family bs (suc k) p few in
      let start = settled_to far.0 far.1 in
      (far.0, far.1, rw drop_take (start.before (p - far.0) (omega (arith, start.some, far.2))))

  waits_before : (p : ℕ) → p < reach family (suc k) bs → Waits (look (head family) (take p bs))
  waits_before p few = go (look (head family) (take p bs)) refl
    where
      go : (l : Look) → look (head family) (take p bs) ≡ l → Waits l
      go (waiting i rest) s = tt
      go (ready i m g rest) s =
          let on : look (head family) bs ≡ ready i m g (rest ++ drop p bs) =
          ap (look (head family)) (sym (take-append-drop p bs))
          ∙ look_on (head family) (longest family) (facts family) (drop p bs) (take p bs)
          ∙ ap (further (head family) (drop p bs)) s in
          let same : i ≡ k = cc in
          let undecided = one_open p few in
          decided_to family (take p bs) i m g rest s undecided.0 (omega (arith, undecided.1)) undecided.2

-- How many bytes there are up to the one that made a frame ready behind k skipped bytes: those held, or more of those
-- offered, as far as the bytes reach that settle its start and the starts before it.
abbrev pub taken_by : ℕ → List ℕ → List ℕ → ℕ → ℕ
taken_by family held offered k = max (length held) (reach family (suc k) (held ++ offered))

-- The answer of a call, where a frame is ready in all that is held and offered: it takes the bytes up to the p-th, which
-- are there and hold the whole frame, and keeps those of them that are behind the frame, which have room in the held places.
pub record Jump (family : ℕ) (held offered : List ℕ) (k n : ℕ) (f : Frame) (p : ℕ) : Type 0 where
  pub there : p ≤ length (held ++ offered)
  pub whole : k + n ≤ p
  pub answer : call (head family) held offered ≡ gives (p - length held) k n f (drop (k + n) (take p (held ++ offered)))
  pub size : length (drop (k + n) (take p (held ++ offered))) ≡ p - (k + n)
  pub short : length held < longest family → p - (k + n) < longest family
  pub fits : length held < longest family → p - (k + n) ≤ 133

module _ (family : ℕ) (held offered : List ℕ) (k n : ℕ) (f : Frame) (behind : List ℕ) (e : look (head family) (held ++ offered) ≡ ready k n f behind)
    (p : ℕ) (up : p ≡ taken_by family held offered k) where
  kept : List ℕ
  kept = drop (k + n) (take p (held ++ offered))

  there : p ≤ length (held ++ offered)
  there = omega (arith, length-append held offered, reach_there family (held ++ offered) k n f behind e)

  handed : Handed (head family) held offered (p - length held) k n f kept
  unfolding kept
  handed =
      let bs : List ℕ = held ++ offered in
      let whole : length held + (p - length held) ≡ p = omega arith in
      record {
        within = omega (arith, length-append held offered, there);
        looks = rw (← take-append-add held offered (p - length held), whole) (ready_with family bs k n f behind e p (omega arith));
        none_sooner = λ j q. rw (← take-append-add held offered j) (waits_before family bs k n f behind e (length held + j) (omega arith));
      }

  pub jump : Jump family held offered k n f p
  unfolding kept
  jump =
      let covers : k + n ≤ reach family (suc k) (held ++ offered) = reach_frame family (held ++ offered) k n f behind e in
      let given : call (head family) held offered ≡ gives (p - length held) k n f kept = handed_call (head family) (longest family) (facts family) held offered (p - length held) k n f kept handed in
      let count : length kept ≡ p - (k + n) = length-slice (k + n) p (held ++ offered) there in
      let few : length held < longest family → p - (k + n) < longest family =
      λ s. subst (λ (i : ℕ). i < longest family) count (gives_short (head family) (longest family) (facts family) held offered (p - length held) k n f kept given s) in
      record {
        there = there;
        whole = omega arith;
        answer = given;
        size = count;
        short = few;
        fits = λ s. omega (arith, few s, longest_fits family);
      }
