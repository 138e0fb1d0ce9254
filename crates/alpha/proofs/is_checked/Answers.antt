-- `alpha::is_checked` meets its contract: the pass gives the sums and the test of the bytes, and the check digits, two by
-- two, give the sums. Assumes nothing.
use Rattle.rules.specs.Bytes.{every}
use Rattle.rules.specs.Sentences.{is_payload_byte}
use Rattle.checksums.specs.Sums.{sums_in}
use Rattle.alpha.proofs.Payloads.{checked}
use Rattle.alpha.proofs.is_checked.Goals as goal

pub returns : goal.returns
unfolding sums_in
returns c =
    rw (c.eq.ensures, c.eq-2.ensures, c.fletcher-sums.ensures, c.hex_pairs-first.ensures)
    (checked (every is_payload_byte c.args.p.now) c.args.check.now c.args.p.now c.requires)
