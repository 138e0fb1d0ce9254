-- What the pass over a payload gives back, in the words of the rules.
use Rattle.std.specs.Prelude.{ℕ, List}
use Rattle.rules.specs.Bytes.{every}
use Rattle.rules.specs.Sentences.{is_payload_byte, sum1, sum2}
use Rattle.checksums.specs.declared.sentence_sums.Sums.{Sums}

unfoldable pub sums_in : List ℕ → Sums
sums_in p = record {
  allowed = every is_payload_byte p;
  sum1 = sum1 p;
  sum2 = sum2 p;
}
