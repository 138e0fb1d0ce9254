-- What it says that a report begins: its marks and its count stand there, and whatever comes behind them, it begins.
-- Assumes nothing.
use Prim.Native.Nat.{ℕ, ◌≤◌}
use mathlib.Core.Path.{◌≡◌, ◌∙◌}
use mathlib.Core.Bool.{true}
use mathlib.Core.List.{List, ◌++◌}
use native.Mathlib.Omega.{arith}
use borrow.Author.Tests.{leb-true, eqb-true}
use lib.Dec.{eqb, leb}
use lib.ListN.{length, get_or, length-append, get_or-append}
use Rattle.frame_laws.proofs.Bytes.{both}
use Rattle.spe.specs.Ends.{begins_report}

pub record Begun (bs : List ℕ) : Type 0 where
  pub there : 4 ≤ length bs
  pub one : get_or bs 0 0 ≡ 0xAA
  pub two : get_or bs 1 0 ≡ 0xAA
  pub three : get_or bs 2 0 ≡ 0xAA
  pub count : get_or bs 3 0 ≡ 0x43

pub begun : (bs : List ℕ) → begins_report bs ≡ true → Begun bs
begun bs e =
    let all = both (leb 4 (length bs)) _ e in
    let four = both _ (eqb (get_or bs 3 0) 0x43) all.1 in
    let three = both _ (eqb (get_or bs 2 0) 0xAA) four.0 in
    let two = both (eqb (get_or bs 0 0) 0xAA) (eqb (get_or bs 1 0) 0xAA) three.0 in
    record {
      there = leb-true _ _ all.0;
      one = eqb-true _ _ two.0;
      two = eqb-true _ _ two.1;
      three = eqb-true _ _ three.1;
      count = eqb-true _ _ four.1;
    }

pub still_begun : (bs cs : List ℕ) → Begun bs → Begun (bs ++ cs)
still_begun bs cs b = record {
  there = omega (arith, b.there, length-append bs cs);
  one = get_or-append bs cs 0 0 (omega (arith, b.there)) ∙ b.one;
  two = get_or-append bs cs 0 1 (omega (arith, b.there)) ∙ b.two;
  three = get_or-append bs cs 0 2 (omega (arith, b.there)) ∙ b.three;
  count = get_or-append bs cs 0 3 (omega (arith, b.there)) ∙ b.count;
}
