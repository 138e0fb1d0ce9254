-- What is found at a frame of the rule, and behind the first frames of a capture: the rule goes on there with the others.
-- Assumes nothing.
use Prim.Native.Nat.{ℕ, zero, suc, ◌+◌, ◌-◌, ◌≤◌}
use Rattle.std.specs.Prelude.{Ok}
use mathlib.Core.Path.{◌≡◌, refl, sym, ap, ◌∙◌}
use mathlib.Core.Bool.{true}
use mathlib.Core.List.{List, [], ◌∷◌, map}
use native.Mathlib.Nat.{zero-add, add_assoc}
use native.Mathlib.Omega.{arith}
use borrow.Author.Tests.{le-leb}
use lib.ListN.{length, take, drop, get_or, length-take, length-drop}
use lib.Seq.{drop-drop, drop-nil}
use Rattle.rules.specs.Bytes.{total, part}
use Rattle.rules.specs.Answers.{read_one, is_family}
use Rattle.rules.specs.declared.Frame.{Frame}
use Rattle.stream_rules.specs.Heads.{good, head, longest, at_close}
use Rattle.stream_rules.specs.Rule.{Found, rule, Look, ready, waiting, look, by_look}
use Rattle.stream_rules.specs.Lister.{fits, frame_from}
use Rattle.stream_laws.proofs.Heads.{good_head}
use Rattle.stream_laws.proofs.Looks.{found, drains, rule_drains, look_ready, closed_good}
use Rattle.stream_laws.proofs.Starts.{close_at_good}
use Rattle.stream_laws.proofs.Families.{facts}
use Rattle.search.proofs.Walk.{left}
use Rattle.listings.specs.Listing.{inside}
use Rattle.listings.specs.Tallies.{behind_last}

-- The first of the frames that the rule finds from a place on: it stands behind some skipped bytes, is good there, and the
-- rule goes on right behind it.
pub record First (family : ℕ) (bs : List ℕ) (at : ℕ) (f : Found) (fs : List Found) : Type 0 where
  pub place : f.start ≡ at + f.skipped
  pub here : head family (drop f.start bs) ≡ good f.length f.frame
  pub rest : left family bs (f.start + f.length) ≡ fs

module _ (family : ℕ) (bs : List ℕ) where
  -- what a look finds is the first
  of_look : (at : ℕ) (f : Found) (fs : List Found) (l : Look) → look (at_close (head family)) (drop at bs) ≡ l
      → drains (head family) at 0 l ≡ f ∷ fs → First family bs at f fs
  of_look at f fs (waiting k kept) is e = let z : ◌≡◌ {A = ℕ} 0 1 = cc in absurd (omega arith)
  of_look at f fs (ready k n g behind) is e =
      let seen = look_ready (at_close (head family)) (drop at bs) k n g behind is in
      let there : f ≡ found (at + k) (0 + k) n g = cc in
      let others : fs ≡ rule (head family) 0 (at + (k + n)) 0 behind = cc in
      record {
        place = rw there (ap (λ (i : ℕ). at + i) (sym (zero-add k)));
        here = rw (there, ← drop-drop k at bs) (closed_good (head family (drop k (drop at bs))) n g seen.here);
        rest = rw (there, others, seen.rest, drop-drop (k + n) at bs) (ap (λ (i : ℕ). left family bs i) (add_assoc at k n));
      }

  pub first : (at : ℕ) (f : Found) (fs : List Found) → left family bs at ≡ f ∷ fs → First family bs at f fs
  first at f fs e =
      of_look at f fs (look (at_close (head family)) (drop at bs)) refl
      (sym (rule_drains (head family) (longest family) (facts family) (drop at bs) at 0) ∙ e)

  -- A frame lies inside the bytes, is read from its own, and is what the lister's second entry gives from its start on.
  pub record Stands (start n : ℕ) (f : Frame) : Type 0 where
    pub inside : start + n ≤ length bs
    pub size : length (part start n bs) ≡ n
    pub read : read_one family (part start n bs) ≡ Ok f

  pub stands : (start n : ℕ) (f : Frame) → head family (drop start bs) ≡ good n f → Stands start n f
  stands start n f here =
      let g = good_head family (drop start bs) n f here in
      let there : n ≤ length bs - start = rw (length-drop start bs) at g.there in
      record {
        inside = omega (arith, g.some);
        size = omega (arith, length-take n (drop start bs), length-drop start bs);
        read = g.read;
      }

  pub given : (start n : ℕ) (f : Frame) → is_family family ≡ true → fits bs ≡ true → head family (drop start bs) ≡ good n f
      → frame_from family bs start ≡ part start n bs
  unfolding frame_from
  given start n f known short here =
      let within = le-leb start (length bs) (omega (arith, (stands start n f here).inside)) in
      rw (known, short, within)
      (ap
      (λ (l : Look). by_look l (λ k m g behind. part k m (drop start bs)) (λ k rest. []))
      (close_at_good (facts family) (drop start bs) 0 n f (λ j p. absurd (omega arith)) here))

  -- Behind the first n frames from a place on, the rule finds the others,
  pub others : (n at : ℕ) → left family bs (behind_last at (take n (left family bs at))) ≡ drop n (left family bs at)
  unfolding behind_last
  others zero at = refl
  others (suc n) at = case (left family bs at) refl (others n)
    where
      case : (fs : List Found) → left family bs at ≡ fs → ((to : ℕ) → left family bs (behind_last to (take n (left family bs to))) ≡ drop n (left family bs to))
          → left family bs (behind_last at (take (suc n) fs)) ≡ drop (suc n) fs
      case [] e on = e
      case (f ∷ fs) e on = rw (first at f fs e).rest at (on (f.start + f.length))

  -- and the bytes of these lie between.
  pub record Between (at end size : ℕ) : Type 0 where
    pub apart : at + size ≤ end
    pub within : end ≤ length bs

  pub between : (n at : ℕ) → at ≤ length bs
      → Between at (behind_last at (take n (left family bs at))) (inside (take n (left family bs at)))
  unfolding behind_last total
  between zero at p = record { apart = omega arith; within = p }
  between (suc n) at p = case (left family bs at) refl (between n)
    where
      case : (fs : List Found) → left family bs at ≡ fs
          → ((to : ℕ) → to ≤ length bs → Between to (behind_last to (take n (left family bs to))) (inside (take n (left family bs to))))
          → Between at (behind_last at (take (suc n) fs)) (inside (take (suc n) fs))
      case [] e on = record { apart = omega arith; within = p }
      case (f ∷ fs) e on =
          let x = first at f fs e in
          let s = stands f.start f.length f.frame x.here in
          let b = rw x.rest at (on (f.start + f.length) s.inside) in
          record { apart = omega (arith, x.place, b.apart); within = b.within }

-- The n-th of some frames: what is told of it, and one frame more.
module _ (f : Found) (gs : List Found) where
  pub told : {A : Type 0} (tell : Found → A) (d : A) (fs : List Found) (n : ℕ) → drop n fs ≡ f ∷ gs → get_or (map tell fs) n d ≡ tell f
  told tell d [] n e = let z : ◌≡◌ {A = ℕ} 0 1 = cc (drop-nil {A = Found} n) in absurd (omega arith)
  told tell d (g ∷ fs) zero e = let same : g ≡ f = cc in ap tell same
  told tell d (g ∷ fs) (suc n) e = told tell d fs n e

  pub end_of_more : (fs : List Found) (n at : ℕ) → drop n fs ≡ f ∷ gs → behind_last at (take (suc n) fs) ≡ f.start + f.length
  unfolding behind_last
  end_of_more [] n at e = let z : ◌≡◌ {A = ℕ} 0 1 = cc (drop-nil {A = Found} n) in absurd (omega arith)
  end_of_more (g ∷ fs) zero at e = let same : g ≡ f = cc in rw same
  end_of_more (g ∷ fs) (suc n) at e = end_of_more fs n (g.start + g.length) e

  pub inside_of_more : (fs : List Found) (n : ℕ) → drop n fs ≡ f ∷ gs → inside (take (suc n) fs) ≡ inside (take n fs) + f.length
  unfolding total
  inside_of_more [] n e = let z : ◌≡◌ {A = ℕ} 0 1 = cc (drop-nil {A = Found} n) in absurd (omega arith)
  inside_of_more (g ∷ fs) zero e = let same : g ≡ f = cc in rw same (omega arith)
  inside_of_more (g ∷ fs) (suc n) e = omega (arith, inside_of_more fs n e)
