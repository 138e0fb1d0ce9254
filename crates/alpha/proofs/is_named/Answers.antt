-- `alpha::is_named` meets its contract: its tests are those of the definition, two digits being a row of digits.
-- Assumes nothing.
use Rattle.std.proofs.Common.{rules}
use Rattle.alpha.proofs.Payloads.{behind_number, number_test, named}
use Rattle.alpha.proofs.is_named.Goals as goal

pub returns : goal.returns
returns c =
    rw (
      c.starts_with.ensures.value,
      c.is_some.ensures,
      c.digits.ensures,
      number_test c.args.p.now c.requires,
      behind_number c.args.p.now c.get.result c.get.ensures.lookup.3 c.is_none_or.ensures (λ b e. search rules),
      named c.args.p.now,
    )
