-- The course of an SPE start, byte by byte: the rules for its fronts, each from the bytes of the whole, and which of them
-- are its own.
-- A front has the whole's bytes as far as it goes, so each rule carries over. Assumes nothing.
use Prim.Native.Nat.{ℕ, zero, suc, ◌+◌, ◌<◌, ◌≤◌}
use mathlib.Core.Path.{◌≡◌, refl, sym, ap, ◌∙◌}
use mathlib.Core.Bool.{true}
use mathlib.Core.List.{List}
use mathlib.Core.Logic.{⊎_elim}
use native.Mathlib.Decide.{dec_lt, ℕ_discrete}
use native.Mathlib.Nat.{eq-zero-or-pos}
use native.Mathlib.Omega.{arith}
use borrow.Author.Count.{below_none, below_more}
use lib.ListN.{length, take, get_or, length-take}
use lib.Seq.{take-take}
use Rattle.rules.specs.Answers.{read_one}
use Rattle.stream_rules.specs.Heads.{is_spe, mark_of, needs, wait, head_of, head}
use Rattle.stream_laws.proofs.Lists.{front_at}
use Rattle.stream_laws.proofs.Course.{Course, waits, turns_bad, is_whole}
use Rattle.stream_laws.proofs.PacketStarts.{Marks, needs_six, needs_longest, packet_fits, front_has_all, front_has_fewer, few_marks, no_mark, no_count, bytes_missing, all_there}

module _ (family : ℕ) (spe : is_spe family ≡ true) (bs : List ℕ) where
  -- A front has the marks of the whole, as far as it goes;
  front_marks : (m k : ℕ) → k ≤ length (take m bs) → Marks family k bs → Marks family k (take m bs)
  front_marks m k within marks i h = front_at bs m i (omega arith) ∙ marks i h

  -- so it is undecided while it has only marks and is short,
  front_few : (m k : ℕ) → length (take m bs) ≤ k → k < 4 → Marks family k bs → head family (take m bs) ≡ wait
  front_few m k within few marks =
      let n = length (take m bs) in
      few_marks family spe (take m bs) (omega arith) (front_marks m n (omega arith) (λ i h. marks i (omega arith)))

  -- and while it has fewer bytes than the start needs.
  front_missing : (m : ℕ) → Marks family 3 bs → length (take m bs) < needs family bs → head family (take m bs) ≡ wait
  front_missing m marks fewer =
      elim (dec_lt (length (take m bs)) 4) [
        | yes few ↦ front_few m 3 (omega arith) (omega arith) marks
        | no more ↦ bytes_missing family spe (take m bs) (omega arith) (front_marks m 3 (omega arith) marks) _ refl (front_has_fewer family m bs (omega arith) fewer)
      ]

  -- All marks, and fewer than four bytes: undecided all along.
  course_few : (k : ℕ) → length bs ≤ k → k < 4 → Marks family k bs → Course family bs
  course_few k within few marks = waits (λ m. front_few m k (omega (arith, length-take m bs)) few marks) (omega (arith, packet_fits family))

  -- Byte k is the first that is no mark: bad from there on.
  course_no_mark : (k : ℕ) → k < 3 → k < length bs → Marks family k bs → (get_or bs k 0 ≡ mark_of family → ⊥) → Course family bs
  course_no_mark k low there marks other =
      turns_bad (k + 1)
      record {
        some = omega arith;
        there = omega arith;
        short = omega (arith, packet_fits family);
        before = λ m h. front_few m k (omega (arith, length-take m bs)) (omega arith) marks;
        after = λ m h.
            let within : k < length (take m bs) = omega (arith, length-take m bs) in
            (no_mark family spe (take m bs) k low within (front_marks m k (omega arith) marks) (λ e. other (sym (front_at bs m k within) ∙ e))).0;
        counted = (no_mark family spe bs k low there marks other).1;
      }

  -- The count is not allowed: bad from there on.
  course_no_count : 4 ≤ length bs → Marks family 3 bs → needs family bs ≡ 0 → Course family bs
  course_no_count there marks none =
      turns_bad 4
      record {
        some = omega arith;
        there = there;
        short = omega (arith, packet_fits family);
        before = λ m h. front_few m 3 (omega (arith, length-take m bs)) (omega arith) marks;
        after = λ m h.
            let within : 4 ≤ length (take m bs) = omega (arith, length-take m bs) in
            (no_count family spe (take m bs) within (front_marks m 3 (omega arith) marks) (front_has_all family m bs within (omega arith) ∙ none)).0;
        counted = (no_count family spe bs there marks none).1;
      }

  -- Fewer bytes than the start needs: undecided all along.
  course_missing : Marks family 3 bs → length bs < needs family bs → Course family bs
  course_missing marks fewer =
      waits (λ m. front_missing m marks (omega (arith, length-take m bs))) (omega (arith, needs_longest family bs))

  -- All the bytes that the start needs: with the last of them the frame is whole.
  course_there : 4 ≤ length bs → Marks family 3 bs → 0 < needs family bs → needs family bs ≤ length bs → Course family bs
  course_there there marks some enough =
      let n = needs family bs in
      is_whole n (rw spe)
      record {
        some = some;
        there = enough;
        short = needs_longest family bs;
        before = λ m h. front_missing m marks (omega (arith, length-take m bs));
        after = λ m h.
            let within : n ≤ length (take m bs) = omega (arith, length-take m bs) in
            let at_3 : 4 ≤ length (take m bs) = omega (arith, needs_six family bs some) in
            (all_there family spe (take m bs) at_3 (front_marks m 3 (omega arith) marks) n (front_has_all family m bs at_3 within) some within).0
            ∙ ap (λ (front : List ℕ). head_of n (read_one family front)) (take-take n m bs h);
        counted = (all_there family spe bs there marks n refl some enough).1;
      }

  -- Behind three marks what the start needs tells which;
  course_by_count : 4 ≤ length bs → Marks family 3 bs → Course family bs
  course_by_count there marks =
      elim (dec_lt (length bs) (needs family bs)) [
        | yes fewer ↦ course_missing marks fewer
        | no enough ↦
            ⊎_elim (course_no_count there marks) (λ some. course_there there marks some (omega arith))
            (eq-zero-or-pos (needs family bs))
      ]

  -- before that, the first byte that is no mark, of those that are left of the three behind the first k.
  course_from : (left k : ℕ) → left + k ≡ 3 → Marks family k bs → Course family bs
  course_from zero k three marks =
      elim (dec_lt k (length bs)) [
        | yes there ↦ course_by_count (omega arith) (λ i h. marks i (omega arith))
        | no none ↦ course_few k (omega arith) (omega arith) marks
      ]
  course_from (suc left) k three marks =
      elim (dec_lt k (length bs)) [
        | yes there ↦ elim (ℕ_discrete (get_or bs k 0) (mark_of family)) [
          | yes mark ↦ course_from left (k + 1) (omega arith) (below_more (λ (i : ℕ). get_or bs i 0 ≡ mark_of family) k marks mark)
          | no other ↦ course_no_mark k (omega arith) there marks other
        ]
        | no none ↦ course_few k (omega arith) (omega arith) marks
      ]

  pub course : Course family bs
  course = course_from 3 0 refl (below_none (λ (i : ℕ). get_or bs i 0 ≡ mark_of family))
