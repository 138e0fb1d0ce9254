-- `search::heads::examine_bracketed` meets its contract: its tests go along the rules for a start between brackets. A count that
-- stops at one more than may stand there tells as much of the inner bytes as the rules ask.
-- Assumes nothing.
use Prim.Native.Nat.{ℕ, ◌+◌, ◌-◌, ◌<◌, ◌≤◌, min}
use mathlib.Core.Path.{◌≡◌, ap, subst, sym, ◌∙◌}
use mathlib.Core.List.{List}
use native.Mathlib.Omega.{arith}
use lib.ListN.{length, take, drop, get_or}
use Rattle.stream_rules.specs.Heads.{brackets_of, around, inner_run}
use Rattle.stream_rules.specs.declared.Brackets.{Brackets}
use Rattle.stream_laws.proofs.Lists.{whole_rest}
use Rattle.stream_laws.proofs.Runs.{run}
use Rattle.stream_laws.proofs.Bracketed.{Bracketed, bracketed, length_is, small}
use Rattle.stream_laws.proofs.BracketStarts.{nothing, not_opened, too_long, inner_open, not_closed, tail_missing, all_there}
use Rattle.search.specs.Seen.{seen}
use Rattle.search.specs.declared.heads.Seen.TheVariants.{Whole, Bad, Undecided}
use Rattle.search.proofs.Seeing.{undecided, bad_start, bad_unclosed, by_whole, closes_off, stays_open}
use Rattle.search.proofs.heads.examine_bracketed.Goals as goal

-- the family, its brackets, and the bytes
module _ (family : ℕ) (is : Bracketed family) (k : Brackets) (its : k ≡ brackets_of family) (s : List ℕ) where
  unopened : 0 < length s → (get_or s 0 0 ≡ k.opening → ⊥) → Bad 1 ≡ seen family s
  unopened some other =
      bad_start family s 1 (not_opened family is s some (λ e. other (e ∙ sym (ap (λ (b : Brackets). b.opening) its))))
      (λ same. omega (arith, same, length_is family is s))

  most_is : k.most ≡ (brackets_of family).most
  most_is = ap (λ (b : Brackets). b.most) its

  tail_is : k.tail ≡ (brackets_of family).tail
  tail_is = ap (λ (b : Brackets). b.tail) its

  -- the whole of it is a few bytes
  few : (k.most < 256) × (k.tail < 256)
  few = let low = small family in (omega (arith, low, most_is), omega (arith, low, tail_is))

-- With an opening byte in front: the count of inner bytes behind it,
module _ (family : ℕ) (is : Bracketed family) (k : Brackets) (its : k ≡ brackets_of family) (s : List ℕ) (some : 0 < length s) (first : get_or s 0 0 ≡ k.opening)
    (n : ℕ) (counts : n ≡ min (length (inner_run k (take (length s - 1) (drop 1 s)))) (k.most + 1)) where
  opens : get_or s 0 0 ≡ (brackets_of family).opening
  opens = first ∙ ap (λ (b : Brackets). b.opening) its

  counted : n ≡ min (run (brackets_of family) s) ((brackets_of family).most + 1)
  counted =
      counts
      ∙ ap (λ (l : List ℕ). min (length (inner_run k l)) (k.most + 1)) (whole_rest s 1)
      ∙ ap (λ (b : Brackets). min (length (inner_run b (drop 1 s))) (b.most + 1)) its

  longer : k.most < n → Bad (k.most + 2) ≡ seen family s
  longer more =
      let most = most_is family is k its s in
      let long : (brackets_of family).most < run (brackets_of family) s = omega (arith, counted, most, more) in
      let settles = too_long family is s some opens long in
      bad_start family s _ (settles.0, settles.1 ∙ omega (arith, most)) (λ same. omega (arith, same, most, long, length_is family is s))

  -- which is the run itself where it is no more than there may be.
  module _ (within : n ≤ k.most) where
    exact : run (brackets_of family) s ≡ n
    exact = omega (arith, counted, most_is family is k its s, within)

    fits : n ≤ (brackets_of family).most
    fits = omega (arith, most_is family is k its s, within)

    unfinished : length s ≤ n + 1 → Undecided ≡ seen family s
    unfinished short = undecided family s (inner_open family is s some opens n exact fits short)

    -- another byte than the closing one behind the run
    unclosed : n + 1 < length s → (get_or s (n + 1) 0 ≡ k.closing → ⊥) → Bad (n + 2) ≡ seen family s
    unclosed there no_closing =
        let other : get_or s (n + 1) 0 ≡ (brackets_of family).closing → ⊥ = λ e. no_closing (e ∙ sym (ap (λ (b : Brackets). b.closing) its)) in
        bad_unclosed family s _ (not_closed family is s some opens n exact fits there other)
        (stays_open family is s (λ e. other (ap (λ (r : ℕ). get_or s (r + 1) 0) (sym exact) ∙ e)))

    -- or that one
    module _ (closing : get_or s (n + 1) 0 ≡ k.closing) where
      closes : get_or s (n + 1) 0 ≡ (brackets_of family).closing
      closes = closing ∙ ap (λ (b : Brackets). b.closing) its

      whole_is : n + 2 + k.tail ≡ around (brackets_of family) n
      whole_is = omega (arith, tail_is family is k its s)

      no_tail : length s < n + 2 + k.tail → Undecided ≡ seen family s
      no_tail fewer = undecided family s (tail_missing family is s some opens n exact fits closes (omega (arith, whole_is, fewer)))

      whole : n + 2 + k.tail ≤ length s → Whole (n + 2 + k.tail) ≡ seen family s
      whole enough =
          subst (λ (m : ℕ). Whole m ≡ seen family s) (sym whole_is)
          (by_whole family s _
          (all_there family is s some opens n exact fits closes (omega (arith, whole_is, enough)))
          (length_is family is s ∙ ap (around (brackets_of family)) exact)
          (closes_off family is s (ap (λ (r : ℕ). get_or s (r + 1) 0) exact ∙ closes)))

pub returns-then-s-eq0 : goal.returns-then-s-eq0
returns-then-s-eq0 c = undecided _ _ (nothing _ (bracketed _ c.requires.0) _ c.if-s-eq0.true)

pub returns-then-s-k : goal.returns-then-s-k
returns-then-s-k c = unopened _ (bracketed _ c.requires.0) _ c.requires.1 _ (omega arith) c.if-s-k.true

pub overflow_add-result : goal.overflow_add-result
overflow_add-result c = omega (arith, few _ (bracketed _ c.requires.0) _ c.requires.1 c.args.s.now)

pub returns-then-k-n : goal.returns-then-k-n
returns-then-k-n c = longer _ (bracketed _ c.requires.0) _ c.requires.1 _ (omega arith) c.if-s-k.false _ c.inner_bytes-n.ensures c.if-k-n.true

pub overflow_add-n : goal.overflow_add-n
overflow_add-n c = omega (arith, few _ (bracketed _ c.requires.0) _ c.requires.1 c.args.s.now)

pub returns-then-s-n : goal.returns-then-s-n
returns-then-s-n c = unfinished _ (bracketed _ c.requires.0) _ c.requires.1 _ (omega arith) c.if-s-k.false _ c.inner_bytes-n.ensures c.if-k-n.false c.if-s-n.true

pub returns-then-s-n-2 : goal.returns-then-s-n-2
returns-then-s-n-2 c =
    unclosed _ (bracketed _ c.requires.0) _ c.requires.1 _ (omega arith) c.if-s-k.false _ c.inner_bytes-n.ensures c.if-k-n.false (omega arith) c.if-s-n-2.true

pub overflow_add-whole-2 : goal.overflow_add-whole-2
overflow_add-whole-2 c = omega (arith, few _ (bracketed _ c.requires.0) _ c.requires.1 c.args.s.now)

pub returns-then-s-whole : goal.returns-then-s-whole
returns-then-s-whole c =
    no_tail _ (bracketed _ c.requires.0) _ c.requires.1 _ (omega arith) c.if-s-k.false _ c.inner_bytes-n.ensures c.if-k-n.false c.if-s-n-2.false c.if-s-whole.true

pub returns : goal.returns
returns c =
    whole _ (bracketed _ c.requires.0) _ c.requires.1 _ (omega arith) c.if-s-k.false _ c.inner_bytes-n.ensures c.if-k-n.false c.if-s-n-2.false c.if-s-whole.false
