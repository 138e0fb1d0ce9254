-- How the list of starts is filled: the first starts stand at its front, its rest is as it was, and the starts still to come
-- are those of the frames that are left. Starts that are not good are passed over, and a good one is filled in.
-- Assumes nothing.
use Prim.Native.Nat.{ℕ, zero, suc, pred, ◌+◌, ◌-◌, ◌≤◌, ◌<◌}
use mathlib.Core.Path.{◌≡◌, refl, sym, ap, ◌∙◌}
use mathlib.Core.List.{List, [], ◌∷◌, ◌++◌}
use native.Mathlib.Nat.{add-zero, zero-add, le_of_suc-le-suc, not-suc-le-zero}
use native.Mathlib.Numerals.{add-one}
use native.Mathlib.Omega.{arith}
use lib.ListN.{length, take, drop, get_or, set, length-set, length-drop, length-map}
use lib.Seq.{take_all, get_or-drop, drop-drop}
use Rattle.std.specs.Prelude.{Some}
use Rattle.rules.specs.declared.Frame.{Frame}
use Rattle.stream_rules.specs.Heads.{shortest, Head, wait, bad, good, head}
use Rattle.stream_rules.specs.Rule.{Found, rule, by_head}
use Rattle.stream_rules.specs.Lister.{frames, starts_of}
use Rattle.stream_laws.proofs.Heads.{good_head}
use Rattle.stream_laws.proofs.Families.{facts}
use Rattle.stream_laws.proofs.Starts.{NotGood, rule_skips, rule_at_good}
use Rattle.lister.specs.Fills.{Fills}
use Rattle.lister.specs.GoodLengths.{good_length, Passes}
use Rattle.lister.proofs.GoodLengths.{too_short, some_length, no_length}
use Rattle.search.proofs.Walk.{left, at_end}

-- all starts of a capture
abbrev pub all : ℕ → List ℕ → List ℕ
all family bs = starts_of (frames family bs)

-- n starts are found, and filled in where the list has places for them; those of what is left from `at` on are to come
pub record Filled (family : ℕ) (bs out₀ out : List ℕ) (at n : ℕ) : Type 0 where
  pub within : at ≤ length bs
  pub few : n ≤ at
  pub some : n ≤ length (all family bs)
  pub come : starts_of (left family bs at) ≡ drop n (all family bs)
  pub front : n ≤ length out₀ → out ≡ take n (all family bs) ++ drop n out₀
  pub same : length out ≡ length out₀

-- one element more of s laid over the front of d
store : (s d : List ℕ) (i : ℕ) → i < length s → i < length d → set (take i s ++ drop i d) i (get_or s i 0) ≡ take (suc i) s ++ drop (suc i) d
store [] d i h k = absurd (not-suc-le-zero h)
store (x ∷ s) [] i h k = absurd (not-suc-le-zero k)
store (x ∷ s) (y ∷ d) zero h k = refl
store (x ∷ s) (y ∷ d) (suc i) h k = ap (λ (l : List ℕ). x ∷ l) (store s d i (le_of_suc-le-suc h) (le_of_suc-le-suc k))

-- how many bytes were skipped before it does not change a frame's start
same_starts : (h : List ℕ → Head) (inside at j k : ℕ) (bs : List ℕ) → starts_of (rule h inside at j bs) ≡ starts_of (rule h inside at k bs)
unfolding rule
same_starts h inside at j k [] = refl
same_starts h (suc inside) at j k (b ∷ bs) = same_starts h inside (suc at) j k bs
same_starts h zero at j k (b ∷ bs) = by (h (b ∷ bs)) (same_starts h zero (suc at) (suc j) (suc k) bs)
  where
    by : (x : Head) → starts_of (rule h zero (suc at) (suc j) bs) ≡ starts_of (rule h zero (suc at) (suc k) bs)
        → starts_of (by_head x (rule h zero (suc at) (suc j) bs) (rule h zero (suc at) (suc j) bs) (λ n f. record { start = at; skipped = j; length = n; frame = f } ∷ rule h (pred n) (suc at) zero bs))
        ≡ starts_of (by_head x (rule h zero (suc at) (suc k) bs) (rule h zero (suc at) (suc k) bs) (λ n f. record { start = at; skipped = k; length = n; frame = f } ∷ rule h (pred n) (suc at) zero bs))
    by wait e = e
    by bad e = e
    by (good n f) e = refl

module _ (family : ℕ) (bs out₀ out : List ℕ) (at n : ℕ) (filled : Filled family bs out₀ out at n) where
  -- over k starts that are not good nothing is filled in
  over : (k : ℕ) → at + k ≤ length bs → ((j : ℕ) → j < k → NotGood (head family (drop (at + j) bs))) → Filled family bs out₀ out (at + k) n
  over k there none = record {
    within = there;
    few = omega (arith, filled.few);
    some = filled.some;
    come = same_starts (head family) 0 (at + k) 0 (0 + k) (drop (at + k) bs)
        ∙ ap (λ (l : List ℕ). starts_of (rule (head family) 0 (at + k) (0 + k) l)) (sym (drop-drop k at bs))
        ∙ sym (ap starts_of (rule_skips (head family) (drop at bs) k at 0 (omega (arith, length-drop at bs)) (λ j p. rw (drop-drop j at bs) (none j p))))
        ∙ filled.come;
    front = filled.front;
    same = filled.same;
  }

  -- so a walk may pass over them
  pub passed : (to : ℕ) → Passes family bs at to → Filled family bs out₀ out to n
  passed to p =
      let there : at + (to - at) ≡ to = omega (arith, p.on) in
      rw there at
      (over (to - at) (omega (arith, p.on, p.within))
      (λ j q. no_length family (drop (at + j) bs) (p.none (at + j) (omega arith) (omega (arith, p.on)))))

  -- a good frame here: there is one more start than n, and it is this one
  module _ (long : ℕ) (e : Some long ≡ good_length family (drop at bs)) where
    here : (f : Frame) × (head family (drop at bs) ≡ good long f)
    here = some_length family (drop at bs) long e

    pub some_bytes : 0 < long
    some_bytes = (good_head family (drop at bs) long here.0 here.1).some

    pub inside : at + long ≤ length bs
    inside = omega (arith, (good_head family (drop at bs) long here.0 here.1).there, length-drop at bs, filled.within)

    split : drop n (all family bs) ≡ at ∷ starts_of (left family bs (at + long))
    split =
        sym filled.come
        ∙ ap starts_of (rule_at_good (facts family) (drop at bs) 0 long here.0 at 0 (λ j p. absurd (omega arith)) here.1)
        ∙ (λ i. add-zero at i ∷ starts_of (rule (head family) 0 (add-zero at i + long) 0 (drop (zero-add long i) (drop at bs))))
        ∙ ap (λ (l : List ℕ). at ∷ starts_of (rule (head family) 0 (at + long) 0 l)) (drop-drop long at bs)

    pub one_more : n < length (all family bs)
    one_more = omega (arith, ap length split, length-drop n (all family bs))

    is_start : get_or (all family bs) n 0 ≡ at
    is_start = ap (λ (k : ℕ). get_or (all family bs) k 0) (sym (add-zero n)) ∙ sym (get_or-drop n (all family bs) 0 0) ∙ ap (λ (l : List ℕ). get_or l 0 0) split

    pub filled_in : Filled family bs out₀ (set out n at) (at + long) (n + 1)
    filled_in = record {
      within = inside;
      few = omega (arith, filled.few, some_bytes);
      some = omega (arith, one_more);
      come = sym (ap (drop 1) split) ∙ drop-drop 1 n (all family bs);
      front = λ room.
          (λ i. set (filled.front (omega arith) i) n (sym is_start i))
          ∙ store (all family bs) out₀ n one_more (omega arith)
          ∙ ap (λ (k : ℕ). take k (all family bs) ++ drop k out₀) (sym (add-one n));
      same = length-set out n at ∙ filled.same;
    }

  -- with none left all starts are filled in
  full : left family bs at ≡ [] → Fills family bs out₀ n out
  full none =
      let last : n ≡ length (all family bs) = omega (arith, filled.some, ap length (sym filled.come ∙ ap starts_of none), length-drop n (all family bs)) in
      let every_one : n ≡ length (frames family bs) = last ∙ length-map (frames family bs) (λ (x : Found). x.start) in
      record {
        count = every_one;
        content = λ room. filled.front (omega (arith, every_one)) ∙ (λ i. take_all n (all family bs) (omega (arith, last)) i ++ drop (every_one i) out₀);
      }

-- where fewer bytes are left than the shortest frame has, the list is filled
pub ends : (family : ℕ) (bs out₀ out : List ℕ) (at n : ℕ) → Filled family bs out₀ out at n → length bs < at + shortest family → Fills family bs out₀ n out
ends family bs out₀ out at n filled short =
    let end : at + (length bs - at) ≡ length bs = omega (arith, filled.within) in
    let past = over family bs out₀ out at n filled (length bs - at) (omega (arith, end))
    (λ j p. too_short family (drop (at + j) bs) (omega (arith, length-drop (at + j) bs))) in
    full family bs out₀ out (at + (length bs - at)) n past (at_end family bs (at + (length bs - at)) (omega (arith, end)))

pub nothing_filled : (family : ℕ) (bs out : List ℕ) → Filled family bs out out 0 0
nothing_filled family bs out = record { within = omega arith; few = omega arith; some = omega arith; come = refl; front = λ room. refl; same = refl }
