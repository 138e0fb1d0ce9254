-- `spe_writer::status::lay_check` meets its contract: 67 bytes have a sum below 2^16, so that nothing of it is lost.
-- Assumes nothing.
use Prim.Native.Nat.{ℕ, ◌*◌, ◌/◌, ◌%◌, ◌^◌, ◌≤◌, ◌<◌}
use mathlib.Core.Path.{◌≡◌, ◌∙◌}
use mathlib.Core.List.{List}
use native.Mathlib.Nat.{mod-eq_of_lt}
use borrow.Author.Rules.{rules}
use native.Mathlib.Omega.{arith}
use lib.ListN.{length, drop, length-take}
use Rattle.rules.specs.Bytes.{part, total}
use Rattle.frame_laws.proofs.Lists.{AreBytes, bytes_take, bytes_drop, total_below}
use Rattle.spe_writer.proofs.status.lay_check.Goals as goal

-- the sum that is taken modulo 2^32 is the whole sum
whole : (out : List ℕ) (sum : ℕ) → AreBytes out → sum ≡ total (part 4 67 out) % 2 ^ 32 → (sum ≡ total (part 4 67 out)) × (sum < 256 * 256)
whole out sum bytes e =
    let data₁ = part 4 67 out in
    let most : total data₁ ≤ 255 * length data₁ = total_below data₁ (bytes_take 67 (drop 4 out) (bytes_drop 4 out bytes)) in
    let size : length data₁ ≤ 67 = simp length-take (omega arith) in
    let same = e ∙ mod-eq_of_lt {n = total data₁} {m = 2 ^ 32} (omega arith) in
    (same, omega arith)

pub returns : goal.returns
returns c =
    let sum = c.sum-sum.result in
    let known = whole c.args.out.now sum (λ i. search rules) c.sum-sum.ensures in
    let high : sum / 256 % 256 ≡ sum / 256 = mod-eq_of_lt (omega (arith, known.1)) in
    c.put_bytes.ensures ∙ rw (c.to_le_bytes.ensures, high, known.0)
