-- `checksums::hexadecimal::hex_pair` meets its contract: each digit's number is below 16. Assumes nothing.
use Rattle.std.proofs.Common.{arith}
use mathlib.Core.Bool.{and-false}
use Rattle.checksums.specs.Hex.{pair_in}
use Rattle.checksums.proofs.Digits.{is_found, is_missing}
use Rattle.checksums.proofs.hexadecimal.hex_pair.Goals as goal

pub returns-in_err-a : goal.returns-in_err-a
unfolding pair_in
returns-in_err-a c = rw (is_missing _ c.in_err-a.ensures) c.from_residual.ensures

pub returns-in_err-b : goal.returns-in_err-b
unfolding pair_in
returns-in_err-b c = rw (is_missing _ c.in_err-b.ensures, and-false) c.from_residual-in_err-b.ensures

pub overflow_mul-result : goal.overflow_mul-result
overflow_mul-result c = omega (arith, is_found _ _ c.in_ok-a.ensures)

pub overflow_add-result : goal.overflow_add-result
overflow_add-result c = omega (arith, is_found _ _ c.in_ok-a.ensures, is_found _ _ c.in_ok-b.ensures)

pub returns : goal.returns
unfolding pair_in
returns c =
    let a = is_found _ _ c.in_ok-a.ensures in
    let b = is_found _ _ c.in_ok-b.ensures in
    simp (a.digit, b.digit, a.number, b.number)
