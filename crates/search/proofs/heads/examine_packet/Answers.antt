-- `search::heads::examine_packet` meets its contract: its tests go along the rules for an SPE start, byte by byte.
-- Assumes nothing.
use Prim.Native.Nat.{ℕ, ◌+◌, ◌≤◌, ◌<◌}
use mathlib.Core.Path.{◌≡◌, sym, ◌∙◌}
use mathlib.Core.Bool.{true}
use mathlib.Core.List.{List}
use native.Mathlib.Omega.{arith}
use lib.ListN.{length, get_or}
use Rattle.stream_rules.specs.Heads.{is_spe, mark_of, needs}
use Rattle.stream_laws.proofs.PacketStarts.{Marks, no_marks, one_more, no_mark, no_count, bytes_missing, all_there}
use Rattle.search.specs.Seen.{seen}
use Rattle.search.specs.declared.heads.Seen.TheVariants.{Whole, Bad, Undecided}
use Rattle.std.specs.Prelude.{Some, None}
use Rattle.starts.specs.Needed.{needed}
use Rattle.starts.proofs.Needed.{needed_some, needed_none}
use Rattle.search.proofs.Seeing.{undecided, by_whole, few, counted, bad_packet}
use Rattle.search.proofs.heads.examine_packet.Goals as goal

-- The family, the bytes, and the mark that they are compared with.
module _ (family : ℕ) (spe : is_spe family ≡ true) (s : List ℕ) (mark : ℕ) (is : mark ≡ mark_of family) where
  -- one, two and three marks
  more : (i : ℕ) → Marks family i s → get_or s i 0 ≡ mark → Marks family (i + 1) s
  more i marks e = one_more family s i marks (e ∙ is)

  one : get_or s 0 0 ≡ mark → Marks family 1 s
  one first = more 0 (no_marks family s) first

  two : get_or s 0 0 ≡ mark → get_or s 1 0 ≡ mark → Marks family 2 s
  two first second = more 1 (one first) second

  three : get_or s 0 0 ≡ mark → get_or s 1 0 ≡ mark → get_or s 2 0 ≡ mark → Marks family 3 s
  three first second third = more 2 (two first second) third

  -- behind i marks another byte than a mark
  broken : (i : ℕ) → i < 3 → i < length s → Marks family i s → (get_or s i 0 ≡ mark → ⊥) → Bad (i + 1) ≡ seen family s
  broken i low there marks other =
      bad_packet family spe s (i + 1) (omega arith) (omega arith) (no_mark family spe s i low there marks (λ e. other (e ∙ sym is)))

-- With three marks and a count: what the start needs decides.
module _ (family : ℕ) (spe : is_spe family ≡ true) (s : List ℕ) (there : 4 ≤ length s) (marks : Marks family 3 s) where
  not_allowed : None ≡ needed family s → Bad 4 ≡ seen family s
  not_allowed none = bad_packet family spe s 4 (omega arith) (omega arith) (no_count family spe s there marks (needed_none family s none))

  module _ (n : ℕ) (some : Some n ≡ needed family s) where
    is : needs family s ≡ n
    is = sym (needed_some family s n some).0

    missing : length s < n → Undecided ≡ seen family s
    missing fewer = undecided family s (bytes_missing family spe s there marks n is fewer)

    whole : n ≤ length s → Whole n ≡ seen family s
    whole enough = by_whole family s n (all_there family spe s there marks n is (needed_some family s n some).1 enough) (counted family spe s ∙ is) (rw spe)

pub returns-then-s-eq0 : goal.returns-then-s-eq0
returns-then-s-eq0 c = few _ c.requires _ 0 c.if-s-eq0.true (omega arith) (no_marks _ _)

pub returns-then-s-mark : goal.returns-then-s-mark
returns-then-s-mark c = broken _ c.requires _ _ c.mark_of-mark.ensures 0 (omega arith) (omega arith) (no_marks _ _) c.if-s-mark.true

pub returns-then-s-eq1 : goal.returns-then-s-eq1
returns-then-s-eq1 c = few _ c.requires _ 1 c.if-s-eq1.true (omega arith) (one _ c.requires _ _ c.mark_of-mark.ensures c.if-s-mark.false)

pub returns-then-s-mark-2 : goal.returns-then-s-mark-2
returns-then-s-mark-2 c =
    broken _ c.requires _ _ c.mark_of-mark.ensures 1 (omega arith) (omega arith) (one _ c.requires _ _ c.mark_of-mark.ensures c.if-s-mark.false) c.if-s-mark-2.true

pub returns-then-s-eq2 : goal.returns-then-s-eq2
returns-then-s-eq2 c = few _ c.requires _ 2 c.if-s-eq2.true (omega arith) (two _ c.requires _ _ c.mark_of-mark.ensures c.if-s-mark.false c.if-s-mark-2.false)

pub returns-then-s-mark-3 : goal.returns-then-s-mark-3
returns-then-s-mark-3 c =
    broken _ c.requires _ _ c.mark_of-mark.ensures 2 (omega arith) (omega arith)
    (two _ c.requires _ _ c.mark_of-mark.ensures c.if-s-mark.false c.if-s-mark-2.false) c.if-s-mark-3.true

pub returns-then-s-eq3 : goal.returns-then-s-eq3
returns-then-s-eq3 c =
    few _ c.requires _ 3 c.if-s-eq3.true (omega arith) (three _ c.requires _ _ c.mark_of-mark.ensures c.if-s-mark.false c.if-s-mark-2.false c.if-s-mark-3.false)

pub returns-in_default : goal.returns-in_default
returns-in_default c =
    not_allowed c.args.family c.requires c.args.s.now (omega arith)
    (three _ c.requires _ _ c.mark_of-mark.ensures c.if-s-mark.false c.if-s-mark-2.false c.if-s-mark-3.false) c.in_default.ensures

pub returns-then-s-n : goal.returns-then-s-n
returns-then-s-n c =
    missing c.args.family c.requires c.args.s.now (omega arith)
    (three _ c.requires _ _ c.mark_of-mark.ensures c.if-s-mark.false c.if-s-mark-2.false c.if-s-mark-3.false) _ c.in-Some.ensures c.if-s-n.true

pub returns : goal.returns
returns c =
    whole c.args.family c.requires c.args.s.now (omega arith)
    (three _ c.requires _ _ c.mark_of-mark.ensures c.if-s-mark.false c.if-s-mark-2.false c.if-s-mark-3.false) _ c.in-Some.ensures c.if-s-n.false
