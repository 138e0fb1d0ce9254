-- The length of the good frame at the head of some bytes: the one that the bytes declare, where the bytes of that length
-- are a good frame, and else none.
-- Assumes nothing.
use Prim.Native.Nat.{ℕ, ◌≤◌, ◌<◌}
use mathlib.Core.Path.{◌≡◌, refl, sym, ap, ◌∙◌}
use mathlib.Core.Bool.{Bool, true, false}
use Rattle.std.specs.Bool.{then_some}
use mathlib.Core.List.{List}
use native.Mathlib.Omega.{arith}
use lib.ListN.{length, take}
use Rattle.std.specs.Prelude.{Option, Some, None, Ok, Err}
use Rattle.rules.specs.Answers.{is_good, read_one}
use Rattle.rules.specs.declared.Frame.{Frame}
use Rattle.rules.specs.Answers.{Read}
use Rattle.stream_rules.specs.Heads.{shortest, length_at, Head, wait, bad, good, head}
use Rattle.stream_rules.specs.Rule.{by_head}
use Rattle.stream_laws.proofs.Heads.{complete, good_head}
use Rattle.stream_laws.proofs.Starts.{NotGood}
use Rattle.lister.specs.GoodLengths.{good_length}

module _ (family : ℕ) (bs : List ℕ) where
  -- no good frame: none
  pub length_none : NotGood (head family bs) → None ≡ good_length family bs
  length_none none = by (head family bs) none
    where
      by : (h : Head) → NotGood h → ◌≡◌ {A = Option ℕ} None (by_head h None None (λ (n : ℕ) (f : Frame). Some n))
      by wait never = refl
      by bad never = refl
      by (good n f) never = absurd (never n f refl)

  -- fewer bytes than the shortest frame has are no frame, and neither are fewer than the bytes declare
  pub too_short : length bs < shortest family → NotGood (head family bs)
  too_short short n f e = let g = good_head family bs n f e in omega (arith, g.long, g.there)

  pub not_declared : (n : ℕ) → length_at family bs ≡ n → length bs < n → NotGood (head family bs)
  not_declared n declared short m f e = let g = good_head family bs m f e in omega (arith, g.declared, g.there)

  -- The declared length, if so many bytes are a good frame.
  pub length_good : (n : ℕ) → n ≤ length bs → is_good (read_one family (take n bs)) ≡ true → Some n ≡ good_length family bs
  length_good n there is = by (read_one family (take n bs)) refl is
    where
      by : (r : Read) → read_one family (take n bs) ≡ r → is_good r ≡ true → Some n ≡ good_length family bs
      by (Ok f) e is_true = sym (ap (λ (h : Head). by_head h None None (λ (k : ℕ) (g : Frame). Some k)) (complete family bs n f there e))
      by (Err k) e is_true = let z : ◌≡◌ {A = ℕ} 0 1 = cc in absurd (omega arith)

  pub length_refused : (n : ℕ) → length_at family bs ≡ n → is_good (read_one family (take n bs)) ≡ false → None ≡ good_length family bs
  length_refused n declared is =
      length_none (λ m f e.
      let g = good_head family bs m f e in
      let same : m ≡ n = g.declared ∙ declared in
      let is_true : is_good (read_one family (take n bs)) ≡ true = ap is_good (rw same at g.read) in
      let z : ◌≡◌ {A = ℕ} 0 1 = cc in
      absurd (omega arith))

  -- both, where the bytes of the declared length are there
  pub length_tested : (n : ℕ) → n ≤ length bs → length_at family bs ≡ n → (b : Bool) → b ≡ is_good (read_one family (take n bs)) → then_some b n ≡ good_length family bs
  length_tested n there declared true is = length_good n there (sym is)
  length_tested n there declared false is = length_refused n declared (sym is)

  -- A length is that of a good frame, and there is none where there is no good one.
  pub some_length : (n : ℕ) → Some n ≡ good_length family bs → ((f : Frame) × (head family bs ≡ good n f))
  some_length n e = by (head family bs) refl e
    where
      by : (h : Head) → head family bs ≡ h → Some n ≡ by_head h None None (λ (k : ℕ) (f : Frame). Some k) → ((f : Frame) × (head family bs ≡ good n f))
      by wait is p = let z : ◌≡◌ {A = ℕ} 0 1 = cc in absurd (omega arith)
      by bad is p = let z : ◌≡◌ {A = ℕ} 0 1 = cc in absurd (omega arith)
      by (good k f) is p = let same : k ≡ n = cc in (f, is ∙ ap (λ (j : ℕ). good j f) same)

  pub no_length : None ≡ good_length family bs → NotGood (head family bs)
  no_length e n f is =
      let some : good_length family bs ≡ Some n = ap (λ (h : Head). by_head h None None (λ (k : ℕ) (g : Frame). Some k)) is in
      let z : ◌≡◌ {A = ℕ} 0 1 = cc in
      omega arith
