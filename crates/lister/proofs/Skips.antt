-- Which starts are passed over together. A count is no mark, so around the fourth byte of an SPE start it is settled which
-- of the next starts can be good; and no frame between brackets starts at an inner byte.
-- Assumes nothing.
use Prim.Native.Nat.{ℕ, ◌+◌, ◌-◌, ◌≤◌, ◌<◌}
use mathlib.Core.Path.{◌≡◌, sym, ◌∙◌}
use mathlib.Core.Bool.{true}
use mathlib.Core.List.{List}
use native.Mathlib.Decide.{ℕ_discrete, dec_lt}
use native.Mathlib.Omega.{arith}
use lib.ListN.{length, drop, get_or, length-drop}
use lib.Seq.{drop-drop, get_or-drop}
use Rattle.std.specs.Prelude.{None}
use Rattle.stream_rules.specs.Heads.{is_spe, brackets_of, mark_of, head}
use Rattle.stream_laws.proofs.Bracketed.{Bracketed}
use Rattle.stream_laws.proofs.Runs.{run, run_within}
use Rattle.stream_laws.proofs.Starts.{NotGood, bad_not_good}
use Rattle.search.proofs.Passing.{mark_is_no_count, behind_no_mark, unopened, in_the_run}
use Rattle.lister.specs.GoodLengths.{good_length, Passes}
use Rattle.lister.proofs.GoodLengths.{length_none, no_length}

-- The starts from a place of some bytes on, as a walk passes over them.
pub nothing_passed : (family : ℕ) (s : List ℕ) (at : ℕ) → at ≤ length s → Passes family s at at
nothing_passed family s at there = record { on = omega arith; within = there; none = λ j from below. absurd (omega arith) }

passes : (family : ℕ) (s : List ℕ) (at k : ℕ) → at + k ≤ length s → ((j : ℕ) → j < k → NotGood (head family (drop (at + j) s)))
    → Passes family s at (at + k)
passes family s at k there none = record {
  on = omega arith;
  within = there;
  none = λ j from below.
      let same : at + (j - at) ≡ j = omega arith in
      length_none family (drop j s) (rw same at (none (j - at) (omega arith)));
}

-- No frame here, and none at the next starts: none at all.
and_behind : (family : ℕ) (s : List ℕ) (at k : ℕ) → None ≡ good_length family (drop at s)
    → ((j : ℕ) → 0 < j → j < k → NotGood (head family (drop j (drop at s)))) → (j : ℕ) → j < k → NotGood (head family (drop (at + j) s))
and_behind family s at k none behind j p =
    elim (ℕ_discrete j 0) [
      | yes first ↦ let same : at ≡ at + j = omega (arith, first) in rw (← same) (no_length family (drop at s) none)
      | no later ↦ rw (← drop-drop j at s) (behind j (omega arith) p)
    ]

-- a start with no frame: none here;
pub over_none : (family : ℕ) (s : List ℕ) (at : ℕ) → at < length s → None ≡ good_length family (drop at s) → Passes family s at (at + 1)
over_none family s at there none = passes family s at 1 (omega arith) (and_behind family s at 1 none (λ j q p. absurd (omega arith)))

-- a mark in a count's place: none here;
pub over_mark : (family : ℕ) (spe : is_spe family ≡ true) (s : List ℕ) (at : ℕ) → at + 4 ≤ length s → get_or s (at + 3) 0 ≡ mark_of family → Passes family s at (at + 1)
over_mark family spe s at there e =
    over_none family s at (omega arith)
    (length_none family (drop at s) (bad_not_good (mark_is_no_count family spe (drop at s) (omega (arith, length-drop at s)) (get_or-drop at s 3 0 ∙ e)).0))

-- none there: neither here, where no frame stands, nor at the next three;
pub over_four : (family : ℕ) (spe : is_spe family ≡ true) (s : List ℕ) (at : ℕ) → at + 4 ≤ length s → (get_or s (at + 3) 0 ≡ mark_of family → ⊥)
    → None ≡ good_length family (drop at s) → Passes family s at (at + 4)
over_four family spe s at there other none =
    passes family s at 4 there
    (and_behind family s at 4 none
    (λ j some few. bad_not_good (behind_no_mark family spe (drop at s) (omega (arith, length-drop at s)) (λ e. other (sym (get_or-drop at s 3 0) ∙ e)) j some few).0))

module _ (family : ℕ) (is : Bracketed family) (s : List ℕ) (at : ℕ) (there : at < length s) where
  -- another byte than an opening one: none here;
  pub over_byte : (get_or s at 0 ≡ (brackets_of family).opening → ⊥) → Passes family s at (at + 1)
  over_byte other = over_none family s at there (length_none family (drop at s) (bad_not_good (unopened family is s at there other).0))

  -- and an opening byte with no frame: none here and in the run behind it.
  pub over_run : (n : ℕ) → n ≤ run (brackets_of family) (drop at s) → None ≡ good_length family (drop at s) → Passes family s at (at + (n + 1))
  over_run n within none =
      passes family s at (n + 1)
      (omega (arith, run_within (brackets_of family) (drop 1 (drop at s)), length-drop 1 (drop at s), length-drop at s))
      (and_behind family s at (n + 1) none (λ j some p. bad_not_good (in_the_run family is (drop at s) j some (omega arith)).0))

-- From a place to a later one, and from there on.
pub further : (family : ℕ) (s : List ℕ) (from at to : ℕ) → Passes family s from at → Passes family s at to → Passes family s from to
further family s from at to first then = record {
  on = omega (arith, first.on, then.on);
  within = then.within;
  none = λ j on below. elim (dec_lt j at) [
    | yes before ↦ first.none j on before
    | no behind ↦ then.none j (omega arith) below
  ];
}
