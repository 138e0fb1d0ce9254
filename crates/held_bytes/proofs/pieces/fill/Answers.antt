-- `held_bytes::pieces::fill` meets its contract: the bytes are laid at the front of zeros.
-- Assumes nothing.
use mathlib.Core.Path.{◌∙◌}
use Rattle.held_bytes.proofs.Buffers.{fills}
use Rattle.held_bytes.proofs.pieces.fill.Goals as goal

pub returns : goal.returns
returns c = c.put_bytes.ensures ∙ fills c.args.bytes.now c.requires
