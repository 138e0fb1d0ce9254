-- What the ranges of the records give to the pens: numbers that fit their widths, a temperature's size, nibbles.
-- Each is one of the tests that the record passed. Assumes nothing.
use Prim.Native.Nat.{◌≤◌}
use mathlib.Core.Path.{◌≡◌}
use mathlib.Core.Bool.{true, and-eq-true_iff}
use native.Mathlib.Omega.{arith}
use borrow.Author.Tests.{leb-true}
use lib.IntN.{nat_abs}
use Rattle.rules.specs.Sentences.{fit, widths02, numbers02, in_range02, widths03, numbers03, in_range03, in_range05}
use Rattle.rules.specs.declared.Sentence02.{Sentence02}
use Rattle.rules.specs.declared.Sentence03.{Sentence03}
use Rattle.rules.specs.declared.Sentence05.{Sentence05}
use Rattle.frame_laws.proofs.Bytes.{tests}

pub fit02 : (r : Sentence02) → in_range02 r ≡ true → fit widths02 (numbers02 r) ≡ true
unfolding in_range02
fit02 r e = search tests

pub fit03 : (r : Sentence03) → in_range03 r ≡ true → fit widths03 (numbers03 r) ≡ true
unfolding in_range03
fit03 r e = search tests

pub temp03 : (r : Sentence03) → in_range03 r ≡ true → nat_abs r.temp ≤ 9999
unfolding in_range03
temp03 r e = search (tests, leb-true)

pub record Nibbles (r : Sentence05) : Type 0 where
  pub band : r.band ≤ 15
  pub segment : r.segment ≤ 15
  pub memory : r.memory ≤ 15
  pub antenna : r.antenna ≤ 15
  pub meter : r.meter ≤ 15
  pub control : r.control ≤ 15
  pub options : r.options ≤ 15
  pub state : r.state ≤ 15

pub nibbles05 : (r : Sentence05) → in_range05 r ≡ true → Nibbles r
unfolding in_range05
nibbles05 r e =
    let h = simp and-eq-true_iff at e in
    omega (arith, leb-true)
