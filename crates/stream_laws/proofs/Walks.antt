-- A walk along the starts of some bytes, from a place on: none of the starts that it has passed is good. How it goes on, and
-- what a look at the bytes then says.
-- Assumes nothing.
use Prim.Native.Nat.{ℕ, ◌+◌, ◌-◌, ◌≤◌, ◌<◌}
use mathlib.Core.Path.{◌≡◌, sym, ap, ◌∙◌}
use mathlib.Core.List.{List, []}
use native.Mathlib.Decide.{dec_lt}
use native.Mathlib.Omega.{arith}
use lib.ListN.{length, drop, length-drop}
use lib.Seq.{drop-drop}
use Rattle.rules.specs.declared.Frame.{Frame}
use Rattle.stream_rules.specs.Heads.{Head, good, at_close}
use Rattle.stream_rules.specs.Rule.{ready, waiting, look}
use Rattle.stream_laws.proofs.Facts.{Facts}
use Rattle.stream_laws.proofs.Starts.{NotGood, NoneGoodBefore, close_at_good, close_at_end}

-- the starts from `from` on and before `at` are not good
pub record Passed (h : List ℕ → Head) (s : List ℕ) (from at : ℕ) : Type 0 where
  pub on : from ≤ at
  pub none : NoneGoodBefore h (drop from s) (at - from)

pub nothing_passed : (h : List ℕ → Head) (s : List ℕ) (from : ℕ) → Passed h s from from
nothing_passed h s from = record { on = omega arith; none = λ j p. absurd (omega arith) }

module _ (h : List ℕ → Head) (s : List ℕ) (from at : ℕ) (passed : Passed h s from at) where
  same_start : (j k : ℕ) → from + j ≡ k → drop j (drop from s) ≡ drop k s
  same_start j k e = drop-drop j from s ∙ ap (λ (n : ℕ). drop n s) e

  -- It goes on over k starts that are not good,
  pub passes : (k : ℕ) → ((j : ℕ) → j < k → NotGood (h (drop (at + j) s))) → Passed h s from (at + k)
  passes k more = record {
    on = omega (arith, passed.on);
    none = λ j p. elim (dec_lt j (at - from)) [
      | yes before ↦ passed.none j before
      | no here ↦ λ n f e. more (j - (at - from)) (omega (arith, passed.on)) n f
          (ap h (sym (same_start j (at + (j - (at - from))) (omega (arith, passed.on)))) ∙ e)
    ];
  }

  -- to a good frame, which is then the first,
  pub first_good : (top : ℕ) → Facts h top → (n : ℕ) (f : Frame) → h (drop at s) ≡ good n f
      → look (at_close h) (drop from s) ≡ ready (at - from) n f (drop (at - from + n) (drop from s))
  first_good top facts n f here =
      close_at_good facts (drop from s) (at - from) n f passed.none (ap h (same_start (at - from) at (omega (arith, passed.on))) ∙ here)

  -- or to the end, and there is none.
  pub none_left : ((j : ℕ) → at ≤ j → j < length s → NotGood (h (drop j s))) → look (at_close h) (drop from s) ≡ waiting (length (drop from s)) []
  none_left rest = close_at_end h (drop from s) (λ j p. elim (dec_lt j (at - from)) [
    | yes before ↦ passed.none j before
    | no here ↦ λ n f e. rest (from + j) (omega (arith, passed.on)) (omega (arith, length-drop from s)) n f (ap h (sym (same_start j (from + j) (omega arith))) ∙ e)
  ])
