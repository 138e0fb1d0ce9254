-- What is left to show of `checksums::sentence_sums::fletcher`, with the invariants beside. Assumes nothing.
use Rattle.std.proofs.Common.{◌≡◌, ℕ, ◌+◌, ◌*◌, ◌%◌, ◌^◌, ◌<◌, ◌≤◌, Bool, ◌&&◌, List, [], ◌∷◌, length, ap, ◌∙◌, arith, drop_of_length-le}
use Rattle.texts.proofs.Steps.{at}
use mathlib.Core.Bool.{and_assoc, and-true}
use Rattle.rules.specs.Bytes.{every, total}
use Rattle.rules.specs.Sentences.{is_payload_byte}
use Rattle.checksums.specs.Sums.{sums_in}
use Rattle.checksums.specs.declared.sentence_sums.Sums.{Sums}
use Rattle.checksums.proofs.Weights.{weighed, rest_of_factor, sum1_total, sum2_weighed}
use Rattle.checksums.proofs.sentence_sums.fletcher.Invariants.{Left}
use Rattle.checksums.proofs.sentence_sums.fletcher.Goals as goal

next : (p rest : List ℕ) (b : ℕ) (allowed : Bool) (s1 s2 weight less : ℕ)
    → Left p (b ∷ rest) allowed s1 s2 weight
    → (less + 1) % 2 ^ 8 ≡ weight
    → less < 256
    → Left p rest (allowed && is_payload_byte b) ((s1 + b) % 2 ^ 8) ((s2 + weight * b % 256) % 2 ^ 8) less
unfolding every total weighed
next p rest b allowed s1 s2 weight less l e h = record {
  tested = and_assoc allowed (is_payload_byte b) (every is_payload_byte rest) ∙ l.tested;
  first = omega (arith, l.first);
  second = omega (arith, l.second, rest_of_factor (length (b ∷ rest)) b, ap (λ (w : ℕ). w * b) l.weighs);
  weighs = omega (arith, l.weighs);
  small = (omega arith, omega arith);
}

done : (p : List ℕ) (allowed : Bool) (s1 s2 weight : ℕ) → Left p [] allowed s1 s2 weight
    → ◌≡◌ {A = Sums} (record { allowed = allowed; sum1 = s1; sum2 = s2 }) (sums_in p)
unfolding every total weighed sums_in
done p allowed s1 s2 weight l =
    let first : s1 ≡ total p % 256 = omega (arith, l.first, l.small.0) in
    let second : s2 ≡ weighed p % 256 = omega (arith, l.second, l.small.1) in
    simp (← l.tested, sum1_total, sum2_weighed, ← first, ← second, and-true)

pub loop-b-preserved : goal.loop-b-preserved
loop-b-preserved c =
    let p = c.args.p.now in
    rw c.payload_byte-allowed.ensures
    (next p _ _ _ _ _ _ _ (rw (at p c.loop-b.b-index c.loop-b-test.true) at c.loop-b.invariant) (omega arith) (omega arith))

pub returns : goal.returns
returns c =
    let h : length c.args.p.now ≤ c.loop-b.b-index = omega arith in
    done c.args.p.now _ _ _ _ (rw (drop_of_length-le c.args.p.now h) at c.loop-b.invariant)
