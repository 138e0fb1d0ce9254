-- The start of a frame between brackets, of a sentence or a message: the rules by which its head is decided, test by test,
-- and that every good frame follows them. The tests are those of any brackets; of the family they ask what `Bracketed` says.
-- Each rule computes the definition by its tests; a bad start is bad since no good frame begins so. Assumes nothing.
use Prim.Native.Nat.{ℕ, suc, ◌+◌, ◌<◌, ◌≤◌}
use Rattle.std.specs.Prelude.{Ok}
use mathlib.Core.Path.{◌≡◌, refl, ap, ◌∙◌, subst}
use mathlib.Core.Bool.{Bool, true, false, ◌&&◌, cond}
use mathlib.Core.List.{List, [], ◌∷◌}
use native.Mathlib.Decide.{dec_lt}
use native.Mathlib.Numerals.{add-one}
use native.Mathlib.Omega.{arith}
use lib.Dec.{eqb, leb, ltb}
use lib.ListN.{length, take, drop, get_or, length-take, length-drop, drop_of_length-le}
use lib.Seq.{drop-cons}
use borrow.Author.Tests.{eq-eqb, ne_eqb, lt-ltb, le-ltb, le-leb, lt-leb}
use Rattle.rules.specs.Answers.{read_one}
use Rattle.rules.specs.declared.Frame.{Frame}
use Rattle.stream_rules.specs.Heads.{brackets_of, around, shortest, open_end, bracket_undecided, undecided, wait, bad, good, head_of, head}
use Rattle.stream_rules.specs.declared.Brackets.{Brackets}
use Rattle.stream_laws.specs.Settled.{bracket_settled, settled}
use Rattle.stream_laws.proofs.Course.{head_of_bad}
use Rattle.stream_laws.proofs.Runs.{run}
use Rattle.stream_laws.proofs.Bracketed.{Between, Bracketed}

-- behind the opening byte, what is undecided hangs on the run and on what is behind it:
by_run : (k : Brackets) (bs : List ℕ) → 0 < length bs → get_or bs 0 0 ≡ k.opening
    → bracket_undecided k bs ≡ (leb (run k bs) k.most && open_end k (drop (run k bs + 1) bs))
by_run k [] some opens = absurd (omega arith)
by_run k (b ∷ bs) some opens = rw (eq-eqb b k.opening opens, add-one)

-- a byte at place e, or none
open_inside : (k : Brackets) (bs : List ℕ) (e : ℕ) → e < length bs
    → open_end k (drop e bs) ≡ (eqb (get_or bs e 0) k.closing && ltb (length (drop (suc e) bs)) k.tail)
open_inside k bs e there = rw (drop-cons bs e 0 there)

open-end : (k : Brackets) (bs : List ℕ) (e : ℕ) → length bs ≤ e → open_end k (drop e bs) ≡ true
open-end k bs e past = rw (drop_of_length-le bs past)

module _ (family : ℕ) (is : Bracketed family) where
  abbrev k : Brackets
  k = brackets_of family

  abbrev Frame-at : List ℕ → ℕ → Type 0
  Frame-at bs n = Between k (shortest family) bs n

  -- the head, and what settles it, by the definitions for this family
  head_by : (bs : List ℕ) (b : Bool) → bracket_undecided k bs ≡ b
      → head family bs ≡ cond b wait (head_of (around k (run k bs)) (read_one family (take (around k (run k bs)) bs)))
  unfolding head undecided
  head_by bs b e = rw (is.no_spe, e)

  settled_by : (bs : List ℕ) → settled family bs ≡ bracket_settled k bs
  unfolding settled
  settled_by bs = rw is.no_spe

  -- a decided start is bad where no front of it can be a good frame
  decided_bad : (bs : List ℕ) → bracket_undecided k bs ≡ false → ((n : ℕ) → Frame-at bs n → ⊥) → head family bs ≡ bad
  decided_bad bs e never =
      let n = around k (run k bs) in
      head_by bs false e ∙ head_of_bad n (read_one family (take n bs)) (λ f h. never n (is.good_start bs n f h))

  -- No byte: undecided.
  pub nothing : (bs : List ℕ) → length bs ≡ 0 → head family bs ≡ wait
  nothing [] none = head_by [] true refl
  nothing (b ∷ bs) none = absurd (omega arith)

  -- A first byte that is no opening one: bad, settled by it.
  pub not_opened : (bs : List ℕ) → 0 < length bs → (get_or bs 0 0 ≡ k.opening → ⊥) → (head family bs ≡ bad) × (settled family bs ≡ 1)
  unfolding bracket_settled
  not_opened [] some other = absurd (omega arith)
  not_opened (b ∷ bs) some other =
      let no = ne_eqb b k.opening other in
      (decided_bad (b ∷ bs) (rw no) (λ n h. other h.opens), settled_by (b ∷ bs) ∙ rw no)

  module _ (bs : List ℕ) (some : 0 < length bs) (opens : get_or bs 0 0 ≡ k.opening) where
    -- More inner bytes than there may be: bad, settled by the first too many.
    pub too_long : k.most < run k bs → (head family bs ≡ bad) × (settled family bs ≡ k.most + 2)
    unfolding bracket_settled
    too_long long =
        let over = lt-leb (run k bs) k.most long in
        (decided_bad bs (by_run k bs some opens ∙ rw over) (λ n h. omega (arith, h.fits)), settled_by bs ∙ rw (eq-eqb (get_or bs 0 0) k.opening opens, over))

    module _ (r : ℕ) (is_run : run k bs ≡ r) (fits : r ≤ k.most) where
      -- No more than there may be, to the end: undecided.
      pub inner_open : length bs ≤ r + 1 → head family bs ≡ wait
      inner_open end = head_by bs true (by_run k bs some opens ∙ rw (is_run, le-leb r k.most fits, open-end k bs (r + 1) end))

      -- Behind them another byte that is no closing one: bad, settled by it.
      pub not_closed : r + 1 < length bs → (get_or bs (r + 1) 0 ≡ k.closing → ⊥) → (head family bs ≡ bad) × (settled family bs ≡ r + 2)
      unfolding bracket_settled
      not_closed there other =
          let no = ne_eqb (get_or bs (r + 1) 0) k.closing other in (
            decided_bad bs
                (by_run k bs some opens ∙ rw (is_run, le-leb r k.most fits, open_inside k bs (r + 1) there, no))
                (λ n h. other (subst (λ j. get_or bs (j + 1) 0 ≡ k.closing) is_run h.closes)),
            settled_by bs ∙ rw (eq-eqb (get_or bs 0 0) k.opening opens, is_run, le-leb r k.most fits, no),
          )

      -- The closing byte, and fewer behind it than there have to be: undecided.
      pub tail_missing : get_or bs (r + 1) 0 ≡ k.closing → length bs < around k r → head family bs ≡ wait
      tail_missing closes fewer =
          elim (dec_lt (r + 1) (length bs)) [
            | yes there ↦
                let less = lt-ltb (length (drop (suc (r + 1)) bs)) k.tail (omega (arith, length-drop (suc (r + 1)) bs)) in
                head_by bs true
                (by_run k bs some opens
                ∙ rw (is_run, le-leb r k.most fits, open_inside k bs (r + 1) there, eq-eqb (get_or bs (r + 1) 0) k.closing closes, less))
            | no end ↦ inner_open (omega arith)
          ]

      -- With all of them the reader of one frame decides.
      pub all_there : get_or bs (r + 1) 0 ≡ k.closing → around k r ≤ length bs
          → (head family bs ≡ head_of (around k r) (read_one family (take (around k r) bs))) × (settled family bs ≡ around k r)
      unfolding bracket_settled
      all_there closes enough =
          let all = le-ltb (length (drop (suc (r + 1)) bs)) k.tail (omega (arith, length-drop (suc (r + 1)) bs)) in
          let closed = eq-eqb (get_or bs (r + 1) 0) k.closing closes in (
            head_by bs false (by_run k bs some opens ∙ rw (is_run, le-leb r k.most fits, open_inside k bs (r + 1) (omega arith), closed, all))
                ∙ ap (λ j. head_of (around k j) (read_one family (take (around k j) bs))) is_run,
            settled_by bs ∙ rw (eq-eqb (get_or bs 0 0) k.opening opens, is_run, le-leb r k.most fits, closed),
          )

  -- A good frame has at least as many bytes as the shortest.
  pub at_least : (bs : List ℕ) (n : ℕ) (f : Frame) → n ≤ length bs → read_one family (take n bs) ≡ Ok f → shortest family ≤ n
  at_least bs n f there e = let h = is.good_start bs n f e in omega (arith, h.size, h.long, length-take n bs)

  -- Every good frame at the head is found.
  pub complete : (bs : List ℕ) (n : ℕ) (f : Frame) → n ≤ length bs → read_one family (take n bs) ≡ Ok f → head family bs ≡ good n f
  complete bs n f there e =
      let h = is.good_start bs n f e in
      let size : around k (run k bs) ≡ n = omega (arith, h.size, length-take n bs) in
      (all_there bs (omega arith) h.opens (run k bs) refl h.fits h.closes (omega arith)).0
      ∙ ap (λ j. head_of j (read_one family (take j bs))) size
      ∙ ap (head_of n) e
