-- `texts::numbers::digits` meets its contract. The loop's invariant: the text is all digits exactly when it is from the place
-- reached on, its number is `count` read on from there, and `count` has as many digits as were read.
-- Assumes nothing.
use Rattle.std.proofs.Common.{◌≡◌, ◌^◌, ◌<◌, drop}
use Rattle.rules.specs.Bytes.{every}
use Rattle.rules.specs.Numbers.{is_digit, decimal, decimal_from}
use Rattle.texts.proofs.numbers.digits.Given as goal

abbrev pub invariant-loop-b : goal.invariant-loop-b
invariant-loop-b l = record {
  digits : every is_digit l.t ≡ every is_digit (drop l.b-index l.t);
  number : decimal l.t ≡ decimal_from l.count (drop l.b-index l.t);
  small : l.count < 10 ^ l.b-index;
}
