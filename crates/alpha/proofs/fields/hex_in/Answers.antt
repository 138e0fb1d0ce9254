-- `alpha::fields::hex_in` meets its contract: two bytes are a field where both are digits. Assumes nothing.
use Rattle.std.proofs.Common.{◌∙◌, arith}
use Rattle.alpha.proofs.Texts.{two_bytes}
use Rattle.alpha.proofs.fields.hex_in.Goals as goal

pub returns : goal.returns
returns c = c.hex_pair.ensures ∙ two_bytes c.args.text.now (omega arith)
