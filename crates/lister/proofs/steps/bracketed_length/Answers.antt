-- `lister::steps::bracketed_length` meets its contract: the run declares a length, and as many bytes are a good frame or none.
-- Assumes nothing.
use Prim.Native.Nat.{ℕ, ◌+◌, ◌<◌, ◌≤◌}
use mathlib.Core.Path.{◌≡◌, sym, ap, ◌∙◌}
use mathlib.Core.Bool.{Bool}
use Rattle.std.specs.Bool.{then_some}
use Rattle.std.specs.Prelude.{None}
use mathlib.Core.List.{List}
use native.Mathlib.Omega.{arith}
use lib.ListN.{length, take, get_or}
use Rattle.rules.specs.Answers.{is_good, read_one}
use Rattle.stream_rules.specs.Heads.{brackets_of, around, length_at, head}
use Rattle.stream_rules.specs.declared.Brackets.{Brackets}
use Rattle.stream_laws.proofs.Bracketed.{Bracketed, bracketed, longest_is, length_is, small}
use Rattle.stream_laws.proofs.BracketStarts.{not_closed}
use Rattle.stream_laws.proofs.Heads.{good_head}
use Rattle.stream_laws.proofs.Runs.{run}
use Rattle.stream_laws.proofs.Starts.{NotGood, bad_not_good}
use Rattle.lister.specs.GoodLengths.{good_length, IsBracketed, Counts, Enclosed}
use Rattle.lister.proofs.GoodLengths.{length_none, not_declared, length_tested}
use Rattle.lister.proofs.steps.bracketed_length.Goals as goal

module _ (family : ℕ) (is : Bracketed family) (bs : List ℕ) (n : ℕ) (h : Counts family n bs) where
  abbrev k : Brackets
  k = brackets_of family

  -- more inner bytes than there may be make no frame
  too_long : k.most < n → NotGood (head family bs)
  too_long long m f e =
      let g = good_head family bs m f e in
      omega (arith, g.declared, g.short, h.counted, longest_is family is, length_is family is bs)

  is_run : n ≤ k.most → run k bs ≡ n
  is_run fits = omega (arith, h.counted, fits)

  declared : n ≤ k.most → length_at family bs ≡ around k n
  declared fits = length_is family is bs ∙ ap (around k) (is_run fits)

  -- and neither do those that no closing byte ends
  no_end : n ≤ k.most → around k n ≤ length bs → (get_or bs (n + 1) 0 ≡ k.closing → ⊥) → NotGood (head family bs)
  no_end fits there other = bad_not_good (not_closed family is bs h.some h.opens n (is_run fits) fits (omega arith) other).0

-- what is asked: the family, the bytes, and how many of them stand behind the first
module _ (family : ℕ) (k : Brackets) (s : List ℕ) (n : ℕ) (asked : IsBracketed family × (k ≡ brackets_of family) × Counts family n s) where
  of_family : Bracketed family
  of_family = bracketed family asked.0.0

  most_is : k.most ≡ (brackets_of family).most
  most_is = ap (λ (b : Brackets). b.most) asked.1

  tail_is : k.tail ≡ (brackets_of family).tail
  tail_is = ap (λ (b : Brackets). b.tail) asked.1

  whole_is : n + 2 + k.tail ≡ around (brackets_of family) n
  whole_is = omega (arith, tail_is)

  -- the whole of it is a few bytes
  few : (k.most ≤ 128) × (k.tail ≤ 4)
  few = let low = small family in (omega (arith, low, most_is), omega (arith, low, tail_is))

  -- no more than there may be,
  module _ (no_more : n ≤ k.most) where
    fits : n ≤ (brackets_of family).most
    fits = omega (arith, most_is, no_more)

    declares : length_at family s ≡ around (brackets_of family) n
    declares = declared family of_family s n asked.2 fits

    missing : length s < n + 2 + k.tail → None ≡ good_length family s
    missing short = length_none family s (not_declared family s _ declares (omega (arith, whole_is, short)))

    -- with all bytes there,
    module _ (enough : n + 2 + k.tail ≤ length s) where
      there : around (brackets_of family) n ≤ length s
      there = omega (arith, whole_is, enough)

      unclosed : (get_or s (n + 1) 0 ≡ k.closing → ⊥) → None ≡ good_length family s
      unclosed other =
          length_none family s
          (no_end family of_family s n asked.2 fits there (λ h. other (h ∙ sym (ap (λ (b : Brackets). b.closing) asked.1))))

      -- and closed
      enclosed : get_or s (n + 1) 0 ≡ k.closing → Enclosed family n s
      enclosed closes = record {
        fits = fits;
        there = there;
        is_run = is_run family of_family s n asked.2 fits;
        opens = asked.2.opens;
        closes = closes ∙ ap (λ (b : Brackets). b.closing) asked.1;
      }

      tested : (b : Bool) → b ≡ is_good (read_one family (take (around (brackets_of family) n) s)) → then_some b (n + 2 + k.tail) ≡ good_length family s
      tested b is = ap (then_some b) whole_is ∙ length_tested family s _ there declares b is

pub returns-then-k-n : goal.returns-then-k-n
returns-then-k-n c =
    length_none _ _
    (too_long _ (bracketed _ c.requires.0.0) _ _ c.requires.2 (omega (arith, most_is c.args.family _ c.args.s.now c.args.n c.requires, c.if-k-n.true)))

pub overflow_add-whole : goal.overflow_add-whole
overflow_add-whole c = omega (arith, c.if-k-n.false, few c.args.family _ c.args.s.now c.args.n c.requires)

pub overflow_add-whole-2 : goal.overflow_add-whole-2
overflow_add-whole-2 c = omega (arith, c.if-k-n.false, few c.args.family _ c.args.s.now c.args.n c.requires)

pub returns-then-s-whole : goal.returns-then-s-whole
returns-then-s-whole c = missing _ _ _ _ c.requires c.if-k-n.false c.if-s-whole.true

pub returns-then-s-n : goal.returns-then-s-n
returns-then-s-n c = unclosed _ _ _ _ c.requires c.if-k-n.false c.if-s-whole.false c.if-s-n.true

pub says_good-requires : goal.says_good-requires
says_good-requires c = (c.requires.0, enclosed _ _ _ _ c.requires c.if-k-n.false c.if-s-whole.false c.if-s-n.false)

pub returns : goal.returns
returns c = c.then_some.ensures ∙ tested _ _ _ _ c.requires c.if-k-n.false c.if-s-whole.false _ c.says_good.ensures
