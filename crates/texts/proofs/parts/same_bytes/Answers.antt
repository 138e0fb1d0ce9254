-- `texts::parts::same_bytes` meets its contract. Assumes nothing.
use Rattle.std.proofs.Common.{◌∙◌}
use Rattle.texts.proofs.Equal.{is_same}
use Rattle.texts.proofs.parts.same_bytes.Goals as goal

pub returns : goal.returns
returns c = c.eq.ensures ∙ is_same c.args.s.now c.args.t.now
