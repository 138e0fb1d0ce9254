-- The course of a start between brackets, byte by byte: the rules for its fronts, each from the bytes of the whole, and which of
-- them are its own.
-- A front has the whole's bytes, and its run, as far as it goes, so each rule carries over. Assumes nothing.
use Prim.Native.Nat.{ℕ, ◌+◌, ◌<◌, ◌≤◌}
use mathlib.Core.Path.{◌≡◌, refl, sym, ap, ◌∙◌}
use mathlib.Core.List.{List}
use mathlib.Core.Logic.{⊎_elim}
use native.Mathlib.Decide.{dec_lt, ℕ_discrete}
use native.Mathlib.Nat.{eq-zero-or-pos}
use native.Mathlib.Omega.{arith}
use lib.ListN.{length, take, get_or, length-take}
use lib.Seq.{get_or-take, take-take}
use Rattle.rules.specs.Answers.{read_one}
use Rattle.stream_rules.specs.Heads.{brackets_of, around, longest, wait, head_of, head}
use Rattle.stream_rules.specs.declared.Brackets.{Brackets}
use Rattle.stream_laws.proofs.Course.{Course, waits, turns_bad, is_whole}
use Rattle.stream_laws.proofs.Runs.{run, run_inside, run_front}
use Rattle.stream_laws.proofs.Bracketed.{Bracketed, longest_is, length_is}
use Rattle.stream_laws.proofs.BracketStarts.{nothing, not_opened, too_long, inner_open, not_closed, tail_missing, all_there}

module _ (family : ℕ) (is : Bracketed family) where
  abbrev k : Brackets
  k = brackets_of family

  abbrev top : longest family ≡ around k k.most
  top = longest_is family is

  module _ (bs : List ℕ) (some : 0 < length bs) (opens : get_or bs 0 0 ≡ k.opening) where
    -- An opening byte is in every front but the empty one.
    front_some : (m : ℕ) → 0 < m → 0 < length (take m bs)
    front_some m h = omega (arith, length-take m bs)

    front_opens : (m : ℕ) → 0 < m → get_or (take m bs) 0 0 ≡ k.opening
    front_opens m h = get_or-take m bs 0 0 h ∙ opens

    -- A front that ends with the run, or before, is undecided.
    front_open : (m : ℕ) → length (take m bs) ≤ run k bs + 1 → run k (take m bs) ≤ k.most → head family (take m bs) ≡ wait
    front_open m within fits =
        ⊎_elim
        (λ none. nothing family is (take m bs) (omega (arith, length-take m bs)))
        (λ h. inner_open family is (take m bs) (front_some m h) (front_opens m h) (run k (take m bs)) refl fits
        (omega (arith, run_front k m bs, length-take m bs)))
        (eq-zero-or-pos m)

    -- More inner bytes than there may be: bad from the first too many on.
    course_too_long : k.most < run k bs → Course family bs
    course_too_long long =
        turns_bad (k.most + 2)
        record {
          some = omega arith;
          there = omega (arith, run_inside k bs some);
          short = omega (arith, top);
          before = λ m h. front_open m (omega (arith, length-take m bs)) (omega (arith, run_front k m bs));
          after = λ m h.
              (too_long family is (take m bs) (front_some m (omega arith)) (front_opens m (omega arith)) (omega (arith, run_front k m bs))).0;
          counted = (too_long family is bs some opens long).1;
        }

    module _ (fits : run k bs ≤ k.most) where
      -- No more than there may be, to the end: undecided all along.
      course_open : length bs ≤ run k bs + 1 → Course family bs
      course_open end = waits (λ m. front_open m (omega (arith, length-take m bs)) (omega (arith, run_front k m bs))) (omega (arith, top))

      -- Another byte behind them that is no closing one: bad from there on.
      course_not_closed : run k bs + 1 < length bs → (get_or bs (run k bs + 1) 0 ≡ k.closing → ⊥) → Course family bs
      course_not_closed there other =
          turns_bad (run k bs + 2)
          record {
            some = omega arith;
            there = omega arith;
            short = omega (arith, top);
            before = λ m h. front_open m (omega (arith, length-take m bs)) (omega (arith, run_front k m bs));
            after = λ m h.
                let within : run k bs + 1 < length (take m bs) = omega (arith, length-take m bs) in
                (not_closed family is (take m bs) (front_some m (omega arith)) (front_opens m (omega arith)) (run k bs) (omega (arith, run_front k m bs)) fits within
                (λ e. other (sym (get_or-take m bs (run k bs + 1) 0 (omega arith)) ∙ e))).0;
            counted = (not_closed family is bs some opens (run k bs) refl fits there other).1;
          }

      module _ (closes : get_or bs (run k bs + 1) 0 ≡ k.closing) where
        -- A front with the closing byte, and fewer behind it than there have to be, is undecided.
        front_closes : (m : ℕ) → run k bs + 1 < m → get_or (take m bs) (run k bs + 1) 0 ≡ k.closing
        front_closes m h = get_or-take m bs (run k bs + 1) 0 h ∙ closes

        front_missing : (m : ℕ) → length (take m bs) < around k (run k bs) → head family (take m bs) ≡ wait
        front_missing m fewer =
            elim (dec_lt (run k bs + 1) m) [
              | yes behind ↦
                  tail_missing family is (take m bs) (front_some m (omega arith)) (front_opens m (omega arith)) (run k bs) (omega (arith, run_front k m bs)) fits
                  (front_closes m behind) fewer
              | no within ↦ front_open m (omega (arith, length-take m bs)) (omega (arith, run_front k m bs))
            ]

        -- So is the whole then, all along;
        course_missing : length bs < around k (run k bs) → Course family bs
        course_missing fewer = waits (λ m. front_missing m (omega (arith, length-take m bs))) (omega (arith, top))

        -- and with the last byte behind the closing one the frame is whole.
        course_there : around k (run k bs) ≤ length bs → Course family bs
        course_there enough =
            is_whole (around k (run k bs)) (length_is family is bs)
            record {
              some = omega arith;
              there = enough;
              short = omega (arith, top);
              before = λ m h. front_missing m (omega (arith, length-take m bs));
              after = λ m h.
                  let within : around k (run k bs) ≤ length (take m bs) = omega (arith, length-take m bs) in
                  (all_there family is (take m bs) (front_some m (omega arith)) (front_opens m (omega arith)) (run k bs) (omega (arith, run_front k m bs)) fits
                  (front_closes m (omega arith)) within).0
                  ∙ ap (λ (front : List ℕ). head_of (around k (run k bs)) (read_one family front)) (take-take (around k (run k bs)) m bs h);
              counted = (all_there family is bs some opens (run k bs) refl fits closes enough).1;
            }

      -- What stands behind the run tells which,
      course_behind_run : Course family bs
      course_behind_run =
          elim (dec_lt (run k bs + 1) (length bs)) [
            | yes there ↦ elim (ℕ_discrete (get_or bs (run k bs + 1) 0) k.closing) [
              | yes closes ↦ elim (dec_lt (length bs) (around k (run k bs))) [
                | yes fewer ↦ course_missing closes fewer
                | no enough ↦ course_there closes (omega arith)
              ]
              | no other ↦ course_not_closed there other
            ]
            | no end ↦ course_open (omega arith)
          ]

    -- and before that the length of the run.
    course_opened : Course family bs
    course_opened =
        elim (dec_lt k.most (run k bs)) [
          | yes long ↦ course_too_long long
          | no fits ↦ course_behind_run (omega arith)
        ]

  -- A first byte that is no opening one: bad from there on.
  course_not_opened : (bs : List ℕ) → 0 < length bs → (get_or bs 0 0 ≡ k.opening → ⊥) → Course family bs
  course_not_opened bs there other =
      turns_bad 1
      record {
        some = omega arith;
        there = there;
        short = omega (arith, top);
        before = λ m h. nothing family is (take m bs) (omega (arith, length-take m bs));
        after = λ m h. (not_opened family is (take m bs) (omega (arith, length-take m bs)) (λ e. other (sym (get_or-take m bs 0 0 h) ∙ e))).0;
        counted = (not_opened family is bs there other).1;
      }

  -- No byte: undecided; else the first byte tells which.
  pub course : (bs : List ℕ) → Course family bs
  course bs =
      ⊎_elim
      (λ none. waits (λ m. nothing family is (take m bs) (omega (arith, length-take m bs))) (omega (arith, top)))
      (λ there. elim (ℕ_discrete (get_or bs 0 0) k.opening) [
        | yes opens ↦ course_opened bs there opens
        | no other ↦ course_not_opened bs there other
      ])
      (eq-zero-or-pos (length bs))
