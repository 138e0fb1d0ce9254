-- `checksums::sentence_sums::fletcher` meets its contract. The loop's invariant: what is found so far, with what is
-- found in the bytes that are left, is what is found in all of them, the sums modulo 256; and the weight is the number
-- of bytes left, modulo 256. Assumes nothing.
use Rattle.std.proofs.Common.{◌≡◌, ℕ, ◌+◌, ◌%◌, ◌<◌, Bool, ◌&&◌, List, length, drop}
use Rattle.rules.specs.Bytes.{every, total}
use Rattle.rules.specs.Sentences.{is_payload_byte}
use Rattle.checksums.proofs.Weights.{weighed}
use Rattle.checksums.proofs.sentence_sums.fletcher.Given as goal

-- what is found so far, with the bytes that are left
pub record Left (p rest : List ℕ) (allowed : Bool) (s1 s2 weight : ℕ) : Type 0 where
  pub tested : allowed && every is_payload_byte rest ≡ every is_payload_byte p
  pub first : (s1 + total rest) % 256 ≡ total p % 256
  pub second : (s2 + weighed rest) % 256 ≡ weighed p % 256
  pub weighs : weight ≡ length rest % 256
  pub small : (s1 < 256) × (s2 < 256)

abbrev pub invariant-loop-b : goal.invariant-loop-b
invariant-loop-b l = Left l.p (drop l.b-index l.p) l.allowed l.sum1 l.sum2 l.weight
