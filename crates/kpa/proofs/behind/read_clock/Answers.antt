-- `kpa::behind::read_clock` meets its contract: six pairs are a date and a time, and the test is the rule's. Assumes nothing.
use mathlib.Core.Path.{◌≡◌, refl, sym}
use Rattle.std.proofs.Common.{arith, length}
use Rattle.std.proofs.lemmas.Grind.{common_steps}
use Rattle.kpa.proofs.Responses.{refused, accepted, clock_read}
use Rattle.kpa.proofs.behind.read_clock.Goals as goal

pub returns-then-not-clock_in_range : goal.returns-then-not-clock_in_range
returns-then-not-clock_in_range c =
    let t = c.args.t.now in
    let some : length t ≡ 0 → ⊥ = grind (arith, common_steps) in
    let clock = clock_read c.in-Some.pairs t c.in-Some.ensures.1 in
    refused c.args.letters t some _ (rw (c.in-Some.ensures.0, ← clock) (sym c.if-not-clock_in_range.ensures))

pub returns : goal.returns
returns c =
    let t = c.args.t.now in
    let some : length t ≡ 0 → ⊥ = grind (arith, common_steps) in
    let clock = clock_read c.in-Some.pairs t c.in-Some.ensures.1 in
    rw clock (accepted c.args.letters t some (rw (c.in-Some.ensures.0, ← clock) (sym c.if-not-clock_in_range.ensures)) refl)
