-- What is left to show of `records::told::with_numbers`, with the invariant beside. Assumes nothing.
use mathlib.Core.List.{map}
use native.Mathlib.Numerals.{add-one}
use native.Mathlib.Omega.{arith}
use mir.Syntax.{w64}
use mir.ValLaws.{to_z_pos}
use Prim.Native.Nat.{ℕ, ◌^◌, ◌<◌}
use mathlib.Core.Path.{◌≡◌}
use lib.IntN.{pos}
use lib.ListN.{length, get_or, length-map, get_or-map}
use lib.Seq.{take-length}
use Rattle.records.proofs.Places.{zeros, zeros_left, one_more}
use Rattle.records.proofs.told.with_numbers.Goals as goal

-- a number fits an `i64`, so it is stored as it is
pub loop-i-preserved : goal.loop-i-preserved
loop-i-preserved c =
    let numbers = c.args.numbers.now in
    let i = c.loop-i.i in
    let small : get_or numbers i 0 < 2 ^ 63 = omega (arith, c.type_inv.numbers i) in
    let all = length-map numbers (λ (n : ℕ). pos n) in
    let stored = one_more zeros (map pos numbers) i (omega arith) (omega arith) in
    rw (c.loop-i.invariant, add-one, c.from.ensures, to_z_pos w64 (get_or numbers i 0) small, ← get_or-map (λ (n : ℕ). pos n) numbers i 0) stored

pub returns : goal.returns
returns c =
    let numbers = c.args.numbers.now in
    let all : c.loop-i.i ≡ length numbers = omega arith in
    rw (c.loop-i.invariant, all, ← length-map numbers (λ (n : ℕ). pos n), take-length, zeros_left)
