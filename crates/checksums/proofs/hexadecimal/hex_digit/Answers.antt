-- `checksums::hexadecimal::hex_digit` meets its contract: the constant is a table of digits. Assumes nothing.
use Rattle.checksums.proofs.Digits.{no_digit, a_digit}
use Rattle.checksums.proofs.hexadecimal.hex_digit.Goals as goal

pub returns-then-number-eq16 : goal.returns-then-number-eq16
returns-then-number-eq16 c = no_digit _ _ c.from.ensures c.ranges.b.fits c.if-number-eq16.true

pub returns-else-number-eq16 : goal.returns-else-number-eq16
returns-else-number-eq16 c = a_digit _ _ c.from.ensures c.ranges.b.fits c.if-number-eq16.false
