-- Which starts are bad by a byte that stands further on, and how many bytes settle them: of an SPE family those with a byte
-- other than a mark among their first three, or with a mark for a count; between brackets those in the run behind an opening
-- byte.
-- Assumes nothing.
use Prim.Native.Nat.{ℕ, zero, suc, ◌+◌, ◌-◌, ◌≤◌, ◌<◌}
use mathlib.Core.Path.{◌≡◌, refl, sym, ap, subst, ◌∙◌}
use mathlib.Core.Bool.{Bool, true, false, ◌&&◌, cond, and-false, false≢true}
use mathlib.Core.List.{List, [], ◌∷◌}
use native.Mathlib.Decide.{ℕ_discrete}
use native.Mathlib.Numerals.{add-one}
use native.Mathlib.Omega.{arith}
use borrow.Author.Tests.{eq-eqb}
use lib.Dec.{eqb, leb}
use lib.ListN.{length, drop, get_or, length-drop}
use lib.Seq.{get_or-drop}
use Rattle.stream_rules.specs.Heads.{is_spe, mark_of, count_of, needs, brackets_of, is_inner, inner_run, bad, head}
use Rattle.stream_rules.specs.declared.Brackets.{Brackets}
use Rattle.stream_laws.specs.Settled.{settled}
use Rattle.stream_laws.proofs.PacketStarts.{needs_none, Marks, no_marks, one_more, no_mark, no_count}
use Rattle.stream_laws.proofs.Runs.{run, run_within}
use Rattle.stream_laws.proofs.Bracketed.{Bracketed}
use Rattle.stream_laws.proofs.BracketStarts.{not_opened}

-- a bad start, settled by so many bytes, or by so many at most
abbrev pub SettledBy : ℕ → List ℕ → ℕ → Type 0
SettledBy family bs d = (head family bs ≡ bad) × (settled family bs ≡ d)

abbrev pub BadBy : ℕ → List ℕ → ℕ → Type 0
BadBy family bs d = (head family bs ≡ bad) × (settled family bs ≤ d)

-- no count is a mark
mark_not : (family k : ℕ) → (0x55 ≡ k → ⊥) → (0xAA ≡ k → ⊥) → mark_of family ≡ k → ⊥
mark_not family k not-55 not-aa = by (eqb family 3)
  where
    by : (t : Bool) → cond t 0x55 0xAA ≡ k → ⊥
    by true = not-55
    by false = not-aa

mark_needs_none : (family : ℕ) (bs : List ℕ) → count_of bs ≡ mark_of family → needs family bs ≡ 0
mark_needs_none family bs mark =
    needs_none family bs
    (λ p. mark_not family 0x01 (λ q. omega (arith, q)) (λ q. omega (arith, q)) (sym mark ∙ p))
    (λ one p. mark_not family 0x43 (λ q. omega (arith, q)) (λ q. omega (arith, q)) (sym mark ∙ p))

module _ (family : ℕ) (spe : is_spe family ≡ true) (bs : List ℕ) where
  -- A start that marks would make bad is bad, since without them it is, and sooner.
  with_marks : (k d : ℕ) → k ≤ 3 → k ≤ length bs → k ≤ d → (Marks family k bs → BadBy family bs d) → BadBy family bs d
  with_marks zero d low there few then = then (no_marks family bs)
  with_marks (suc k) d low there few then =
      with_marks k d (omega arith) (omega arith) (omega arith)
      (λ marks. elim (ℕ_discrete (get_or bs k 0) (mark_of family)) [
        | yes mark ↦ then (subst (λ (n : ℕ). Marks family n bs) (add-one k) (one_more family bs k marks mark))
        | no other ↦
            let h = no_mark family spe bs k (omega arith) (omega arith) marks other in
            (h.0, omega (arith, h.1))
      ])

  not_marked : (k : ℕ) → k < 3 → k < length bs → (get_or bs k 0 ≡ mark_of family → ⊥) → BadBy family bs (k + 1)
  not_marked k low there other =
      with_marks k (k + 1) (omega arith) (omega arith) (omega arith)
      (λ marks. let h = no_mark family spe bs k low there marks other in (h.0, omega (arith, h.1)))

  pub mark_is_no_count : 4 ≤ length bs → get_or bs 3 0 ≡ mark_of family → BadBy family bs 4
  mark_is_no_count there mark =
      with_marks 3 4 (omega arith) (omega arith) (omega arith)
      (λ marks. let h = no_count family spe bs there marks (mark_needs_none family bs mark) in (h.0, omega (arith, h.1)))

-- A start at another byte than a mark, within some bytes.
pub unmarked : (family : ℕ) (spe : is_spe family ≡ true) (bs : List ℕ) (at : ℕ) → at < length bs → (get_or bs at 0 ≡ mark_of family → ⊥) → BadBy family (drop at bs) 1
unmarked family spe bs at there other =
    not_marked family spe (drop at bs) 0 (omega arith) (omega (arith, length-drop at bs))
    (λ e. other (ap (λ (k : ℕ). get_or bs k 0) (omega arith) ∙ sym (get_or-drop at bs 0 0) ∙ e))

-- Where the fourth byte is no mark, the three starts behind the first are bad, settled by that byte at the latest.
pub behind_no_mark : (family : ℕ) (spe : is_spe family ≡ true) (bs : List ℕ) → 4 ≤ length bs → (get_or bs 3 0 ≡ mark_of family → ⊥)
    → (j : ℕ) → 0 < j → j < 4 → BadBy family (drop j bs) (4 - j)
behind_no_mark family spe bs there other j some few =
    let h =
    not_marked family spe (drop j bs) (3 - j) (omega arith) (omega (arith, length-drop j bs))
    (λ e. other (ap (λ (k : ℕ). get_or bs k 0) (omega arith) ∙ sym (get_or-drop j bs (3 - j) 0) ∙ e)) in
    (h.0, omega (arith, h.1))

-- each byte of a run is an inner byte
run_byte : (k : Brackets) (bs : List ℕ) (j : ℕ) → j < length (inner_run k bs) → is_inner k (get_or bs j 0) ≡ true
unfolding inner_run
run_byte k [] j h = absurd (omega arith)
run_byte k (b ∷ bs) zero h = by (is_inner k b) h
  where
    by : (t : Bool) → 0 < length (cond t (b ∷ inner_run k bs) []) → t ≡ true
    by true p = refl
    by false p = absurd (omega arith)
run_byte k (b ∷ bs) (suc j) h = run_byte k bs j (by (is_inner k b) h)
  where
    by : (t : Bool) → suc j < length (cond t (b ∷ inner_run k bs) []) → j < length (inner_run k bs)
    by true p = omega arith
    by false p = absurd (omega arith)

-- and no inner byte is an opening one
no_opening : (k : Brackets) (b : ℕ) → b ≡ k.opening → is_inner k b ≡ false
no_opening k b e = rw (eq-eqb b k.opening e, and-false (leb 0x20 b && leb b 0x7E))

module _ (family : ℕ) (is : Bracketed family) (s : List ℕ) where
  -- a start at another byte than an opening one, within some bytes
  pub unopened : (at : ℕ) → at < length s → (get_or s at 0 ≡ (brackets_of family).opening → ⊥) → SettledBy family (drop at s) 1
  unopened at there other =
      not_opened family is (drop at s) (omega (arith, length-drop at s))
      (λ e. other (ap (λ (k : ℕ). get_or s k 0) (omega arith) ∙ sym (get_or-drop at s 0 0) ∙ e))

  -- a start in the run behind a byte
  pub in_the_run : (j : ℕ) → 0 < j → j ≤ run (brackets_of family) s → SettledBy family (drop j s) 1
  in_the_run j some within = unopened j (omega (arith, run_within (brackets_of family) (drop 1 s), length-drop 1 s)) opening
    where
      k : Brackets
      k = brackets_of family

      byte : is_inner k (get_or s j 0) ≡ true
      byte =
          ap (λ (i : ℕ). is_inner k (get_or s i 0)) (omega arith)
          ∙ ap (is_inner k) (sym (get_or-drop 1 s (j - 1) 0))
          ∙ run_byte k (drop 1 s) (j - 1) (omega arith)

      opening : get_or s j 0 ≡ k.opening → ⊥
      opening e = false≢true (sym (no_opening k (get_or s j 0) e) ∙ byte)
