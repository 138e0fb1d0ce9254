-- The run of inner bytes behind the first byte of a list: how long it is, byte by byte, and in a front of the list.
-- By induction on the list; inner bytes in front of a list only lengthen its run. Assumes nothing.
use Prim.Native.Nat.{ℕ, zero, suc, ◌+◌, ◌-◌, ◌<◌, ◌≤◌, min}
use mathlib.Core.Path.{◌≡◌, refl, sym, ap, ◌∙◌}
use mathlib.Core.Bool.{Bool, true, false, ◌&&◌, cond}
use mathlib.Core.List.{List, [], ◌∷◌, ◌++◌}
use native.Mathlib.Omega.{arith}
use lib.ListN.{length, take, drop, length-take, length-drop, take-append-drop}
use lib.Seq.{drop-drop}
use Rattle.rules.specs.Bytes.{every}
use Rattle.frame_laws.proofs.Bytes.{every_split, every_take}
use Rattle.stream_rules.specs.Heads.{is_inner, inner_run}
use Rattle.stream_rules.specs.declared.Brackets.{Brackets}

-- how many inner bytes stand behind the first byte, without a gap
abbrev pub run : Brackets → List ℕ → ℕ
run k bs = length (inner_run k (drop 1 bs))

module _ (k : Brackets) where
  -- Inner bytes in front of a list only lengthen its run, and a byte that is none ends it.
  run_behind : (p bs : List ℕ) → every (is_inner k) p ≡ true → length (inner_run k (p ++ bs)) ≡ length p + length (inner_run k bs)
  unfolding inner_run
  run_behind [] bs good = omega arith
  run_behind (b ∷ p) bs good =
      let h = every_split (is_inner k) b p good in
      rw h.0 (omega (arith, run_behind p bs h.1))

  run_stops : (b : ℕ) (bs : List ℕ) → is_inner k b ≡ false → length (inner_run k (b ∷ bs)) ≡ 0
  unfolding inner_run
  run_stops b bs other = rw other

  pub run_up_to : (first : ℕ) (p : List ℕ) (b : ℕ) (bs : List ℕ) → every (is_inner k) p ≡ true → is_inner k b ≡ false
      → run k (first ∷ p ++ b ∷ bs) ≡ length p
  run_up_to first p b bs good other = omega (arith, run_behind p (b ∷ bs) good, run_stops b bs other)

  -- Where m bytes from n on are inner bytes, the run from n on is those and the run behind them.
  pub run_from : (bs : List ℕ) (n m : ℕ) → n + m ≤ length bs → every (is_inner k) (take m (drop n bs)) ≡ true
      → length (inner_run k (drop n bs)) ≡ m + length (inner_run k (drop (n + m) bs))
  run_from bs n m there good =
      let t = drop n bs in
      let size : length (take m t) ≡ m = omega (arith, length-take m t, length-drop n bs) in
      ap (λ l. length (inner_run k l)) (sym (take-append-drop m t))
      ∙ run_behind (take m t) (drop m t) good
      ∙ ap (λ j. j + length (inner_run k (drop m t))) size
      ∙ ap (λ l. m + length (inner_run k l)) (drop-drop m n bs)

  -- The run ends within the list; and in a front of the list where that ends, if not before.
  pub run_within : (bs : List ℕ) → length (inner_run k bs) ≤ length bs
  unfolding inner_run
  run_within [] = omega arith
  run_within (b ∷ bs) = by_byte (is_inner k b) (run_within bs)
    where
      by_byte : (good : Bool) → length (inner_run k bs) ≤ length bs → length (cond good (b ∷ inner_run k bs) []) ≤ suc (length bs)
      by_byte true h = omega arith
      by_byte false h = omega arith

  -- It is as long as the list if, and only if, all are inner bytes.
  pub all_run : (bs : List ℕ) → length (inner_run k bs) ≡ length bs → every (is_inner k) bs ≡ true
  unfolding inner_run every
  all_run [] e = refl
  all_run (b ∷ bs) e = by_byte (is_inner k b) (all_run bs) e
    where
      by_byte : (t : Bool) → (length (inner_run k bs) ≡ length bs → every (is_inner k) bs ≡ true) → length (cond t (b ∷ inner_run k bs) []) ≡ suc (length bs)
          → (t && every (is_inner k) bs) ≡ true
      by_byte true rest h = rest (omega (arith, h))
      by_byte false rest h = absurd (omega (arith, h))

  pub run_all : (bs : List ℕ) → every (is_inner k) bs ≡ true → length (inner_run k bs) ≡ length bs
  run_all bs good =
      let h = run_from bs 0 (length bs) (omega arith) (every_take (is_inner k) (length bs) bs good) in
      omega (arith, h, run_within bs)

  pub run_inside : (bs : List ℕ) → 0 < length bs → run k bs < length bs
  run_inside bs some = omega (arith, run_within (drop 1 bs), length-drop 1 bs)

  pub run_take : (m : ℕ) (bs : List ℕ) → length (inner_run k (take m bs)) ≡ min m (length (inner_run k bs))
  unfolding inner_run
  run_take zero bs = omega arith
  run_take (suc m) [] = omega arith
  run_take (suc m) (b ∷ bs) = by_byte (is_inner k b) (run_take m bs)
    where
      by_byte : (good : Bool) → length (inner_run k (take m bs)) ≡ min m (length (inner_run k bs))
          → length (cond good (b ∷ inner_run k (take m bs)) []) ≡ min (suc m) (length (cond good (b ∷ inner_run k bs) []))
      by_byte true h = omega arith
      by_byte false h = omega arith

  pub run_front : (m : ℕ) (bs : List ℕ) → run k (take m bs) ≡ min (m - 1) (run k bs)
  unfolding inner_run
  run_front zero bs = omega arith
  run_front (suc m) [] = omega arith
  run_front (suc m) (b ∷ bs) = omega (arith, run_take m bs)
