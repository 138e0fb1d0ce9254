-- Inner bytes in the library's words: the run ends where the library finds the first byte that is none, and a block is all
-- inner bytes where as many of them are.
-- By induction on the list. Assumes nothing.
use Rattle.std.proofs.Common.{◌≡◌, ℕ, suc, ◌+◌, ◌≤◌, Bool, true, false, ◌&&◌, not, cond, eqb, ltb, List, [], ◌∷◌, length, Some, None, refl, ◌∙◌, arith, eq-eqb, ne_eqb, eqb-true, inl, inr, lt-ltb, le-ltb}
use Rattle.std.specs.Option.{unwrap_or}
use Rattle.std.proofs.lemmas.Bool.{cases_lt}
use Rattle.std.proofs.lemmas.List.Recursion.{is_position_or_len}
use Rattle.stream_laws.proofs.Runs.{run_within}
use Rattle.std.specs.List.{count_by, position, position_or_len}
use Rattle.std.proofs.lemmas.List.Sums.{sum_by-cons}
use Rattle.rules.specs.Bytes.{every}
use Rattle.frame_laws.proofs.Bytes.{alike}
use Rattle.stream_rules.specs.Heads.{is_inner, inner_run}
use Rattle.stream_rules.specs.declared.Brackets.{Brackets}

module _ (k : Brackets) where
  abbrev pub not_inner : ℕ → Bool
  not_inner b = not (is_inner k b)

  run_place : (p : List ℕ) → length (inner_run k p) ≡ position_or_len not_inner p
  unfolding inner_run
  run_place = is_position_or_len (λ l. length (inner_run k l)) not_inner refl step
    where
      step : (b : ℕ) (p : List ℕ) → length (inner_run k (b ∷ p)) ≡ cond (not_inner b) 0 (1 + length (inner_run k p))
      step b p = by (is_inner k b)
        where
          by : (t : Bool) → length (cond t (b ∷ inner_run k p) []) ≡ cond (not t) 0 (1 + length (inner_run k p))
          by true = omega arith
          by false = refl

  pub run_position : (p : List ℕ) → unwrap_or (position not_inner p) (length p) ≡ length (inner_run k p)
  run_position p = rw (← run_place p) (by_length (length (inner_run k p)) (length p) (run_within k p))
    where
      by_length : (n l : ℕ) → n ≤ l → unwrap_or (cond (ltb n l) (Some n) None) l ≡ n
      by_length n l h = elim (cases_lt n l) [ inl k ↦ rw (lt-ltb n l k) | inr k ↦ rw (le-ltb n l k) (omega arith) ]

module _ {A : Type 0} (test : A → Bool) where
  -- no more pass than there are, and as many exactly where each does
  pub few_pass : (xs : List A) → count_by test xs ≤ length xs
  few_pass [] = omega arith
  few_pass (x ∷ xs) = by (test x) (sum_by-cons (λ (y : A). cond (test y) 1 0) x xs) (few_pass xs)
    where
      by : (b : Bool) → count_by test (x ∷ xs) ≡ cond b 1 0 + count_by test xs → count_by test xs ≤ length xs → count_by test (x ∷ xs) ≤ suc (length xs)
      by true e few = omega (arith, e, few)
      by false e few = omega (arith, e, few)

  pub all_pass : (xs : List A) → eqb (count_by test xs) (length xs) ≡ every test xs
  unfolding every
  all_pass [] = refl
  all_pass (x ∷ xs) = by (test x) refl (sum_by-cons (λ (y : A). cond (test y) 1 0) x xs) (few_pass xs) (all_pass xs)
    where
      by : (b : Bool) → test x ≡ b → count_by test (x ∷ xs) ≡ cond b 1 0 + count_by test xs → count_by test xs ≤ length xs → eqb (count_by test xs) (length xs) ≡ every test xs
          → eqb (count_by test (x ∷ xs)) (suc (length xs)) ≡ (b && every test xs)
      by true is e few rest =
          alike (eqb (count_by test (x ∷ xs)) (suc (length xs))) (eqb (count_by test xs) (length xs))
          (λ h. eq-eqb _ _ (omega (arith, eqb-true _ _ h, e)))
          (λ h. eq-eqb _ _ (omega (arith, eqb-true _ _ h, e)))
          ∙ rest
      by false is e few rest = ne_eqb _ _ (λ (same : count_by test (x ∷ xs) ≡ suc (length xs)). omega (arith, same, e, few))
