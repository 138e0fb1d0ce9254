-- One step along a capture: the first good frame from a place on is the next that the rule finds there, and the rule goes
-- on right behind it.
-- Assumes nothing.
use Prim.Native.Nat.{ℕ, zero, suc, ◌+◌, ◌-◌, ◌*◌, ◌≤◌, ◌<◌}
use mathlib.Core.Path.{◌≡◌, refl, sym, ap, subst, ◌∙◌}
use mathlib.Core.List.{List, [], ◌∷◌}
use native.Mathlib.Nat.{zero-add, add_assoc, mul-zero, mul-suc}
use native.Mathlib.Omega.{arith}
use lib.ListN.{length, drop, length-drop, drop_of_length-le}
use lib.Seq.{drop-drop}
use Rattle.rules.specs.declared.Frame.{Frame}
use Rattle.stream_rules.specs.Heads.{shortest, longest, good, head, at_close}
use Rattle.stream_rules.specs.Rule.{Found, rule, Look, ready, waiting, look, by_look}
use Rattle.stream_rules.specs.Lister.{frames}
use Rattle.stream_laws.proofs.Looks.{found, drains, rule_drains, FrameFirst, look_ready, closed_good}
use Rattle.stream_laws.proofs.Heads.{GoodHead, good_head}
use Rattle.stream_laws.proofs.Families.{facts}
use Rattle.search.specs.Sought.{first_from}
use Rattle.search.specs.declared.First.{First}
use Rattle.std.specs.Prelude.{Option, Some, None}

-- what is left to list from a place on
abbrev pub left : ℕ → List ℕ → ℕ → List Found
left family bs at = rule (head family) 0 at 0 (drop at bs)

-- The next frame stands behind some skipped bytes, is there as a whole, and is the first that is left.
pub record Next (family : ℕ) (bs : List ℕ) (at start n : ℕ) (f : Frame) : Type 0 where
  pub skipped : ℕ
  pub place : start ≡ at + skipped
  pub some : 0 < n
  pub long : shortest family ≤ n
  pub there : start + n ≤ length bs
  pub lists : left family bs at ≡ found start skipped n f ∷ left family bs (start + n)

module _ (family : ℕ) (bs : List ℕ) (at : ℕ) where
  from_look : (k n : ℕ) (f : Frame) (behind : List ℕ) → look (at_close (head family)) (drop at bs) ≡ ready k n f behind → Next family bs at (at + k) n f
  from_look k n f behind e =
      let first : FrameFirst (at_close (head family)) (drop at bs) k n f behind = look_ready (at_close (head family)) (drop at bs) k n f behind e in
      let here : head family (drop k (drop at bs)) ≡ good n f = closed_good (head family (drop k (drop at bs))) n f first.here in
      let whole : GoodHead family (drop k (drop at bs)) n f = good_head family (drop k (drop at bs)) n f here in
      let rest : behind ≡ drop (at + (k + n)) bs = first.rest ∙ drop-drop (k + n) at bs in
      record {
        skipped = k;
        place = refl;
        some = whole.some;
        long = whole.long;
        there = omega (arith, whole.some, whole.there, length-drop k (drop at bs), length-drop at bs);
        lists = rule_drains (head family) (longest family) (facts family) (drop at bs) at 0
            ∙ ap (drains (head family) at 0) e
            ∙ (λ i. found (at + k) (zero-add k i) n f ∷ rule (head family) 0 (at + (k + n)) 0 (rest i))
            ∙ ap (λ (m : ℕ). found (at + k) k n f ∷ rule (head family) 0 m 0 (drop m bs)) (sym (add_assoc at k n));
      }

  pub next : (first : First) → first_from family bs at ≡ Some first → Next family bs at first.start first.length first.frame
  unfolding first_from
  next first e = case (look (at_close (head family)) (drop at bs)) refl e
    where
      case : (l : Look) → look (at_close (head family)) (drop at bs) ≡ l
          → by_look l (λ k n g behind. Some (record { start = at + k; length = n; frame = g })) (λ k rest. None) ≡ Some first
          → Next family bs at first.start first.length first.frame
      case (waiting k rest) is p = let z : ◌≡◌ {A = ℕ} 0 1 = cc in absurd (omega arith)
      case (ready k n g behind) is p =
          let same : record { start = at + k; length = n; frame = g } ≡ first = cc in
          subst (λ (r : First). Next family bs at r.start r.length r.frame) same (from_look k n g behind is)

  -- Where there is none, nothing is left.
  pub no_next : first_from family bs at ≡ None → left family bs at ≡ []
  unfolding first_from
  no_next e = rule_drains (head family) (longest family) (facts family) (drop at bs) at 0 ∙ case (look (at_close (head family)) (drop at bs)) e
    where
      case : (l : Look) → ◌≡◌ {A = Option First} (by_look l (λ k n g behind. Some (record { start = at + k; length = n; frame = g })) (λ k rest. None)) None → drains (head family) at 0 l ≡ []
      case (waiting k rest) p = refl
      case (ready k n g behind) p = let z : ◌≡◌ {A = ℕ} 0 1 = cc in absurd (omega arith)

-- At the end nothing is left.
pub at_end : (family : ℕ) (bs : List ℕ) (at : ℕ) → length bs ≤ at → left family bs at ≡ []
unfolding rule
at_end family bs at h = ap (rule (head family) 0 at 0) (drop_of_length-le bs h)

-- Each of the frames left has at least as many bytes as the family's shortest, and together they have no more than are left.
module _ (family : ℕ) (bs : List ℕ) where
  abbrev least : ℕ → ℕ
  least at = shortest family * length (left family bs at)

  step : (fuel at : ℕ) → ((next_at : ℕ) → length bs < next_at + fuel → least next_at ≤ length bs - next_at)
      → length bs < at + suc fuel → (x : Option First) → first_from family bs at ≡ x → least at ≤ length bs - at
  step fuel at more h None e = rw (no_next family bs at e, mul-zero) (omega arith)
  step fuel at more h (Some f) e =
      let n = next family bs at f e in
      let rest : least (f.start + f.length) ≤ length bs - (f.start + f.length) = more (f.start + f.length) (omega (arith, n.place, n.some)) in
      let one_more : least at ≡ least (f.start + f.length) + shortest family =
      ap (λ (fs : List Found). shortest family * length fs) n.lists ∙ mul-suc (shortest family) (length (left family bs (f.start + f.length))) in
      omega (arith, one_more, rest, n.long, n.there, n.place)

  from_there : (fuel at : ℕ) → length bs < at + fuel → least at ≤ length bs - at
  from_there zero at h = rw (at_end family bs at (omega arith), mul-zero) (omega arith)
  from_there (suc fuel) at h = step fuel at (from_there fuel) h (first_from family bs at) refl

  pub few_frames : shortest family * length (frames family bs) ≤ length bs
  few_frames = omega (arith, from_there (suc (length bs)) 0 (omega arith))
