-- The two sums of a payload, all bytes at once: sum1 is their total, and in sum2 each byte is counted once for each byte
-- from it to the end, both modulo 256. By induction on the bytes, from any two sums. Assumes nothing.
use Rattle.std.proofs.Common.{◌≡◌, ℕ, suc, ◌+◌, ◌*◌, ◌/◌, ◌%◌, ◌<◌, List, [], ◌∷◌, length, sym, ap, ◌∙◌, arith}
use native.Mathlib.Nat.{div-add-mod}
use Rattle.rules.specs.Bytes.{total}
use Rattle.rules.specs.Sentences.{sum1_from, sum2_from, sum1, sum2}

-- each byte times its weight, the number of bytes from it to the end
unfoldable pub weighed : List ℕ → ℕ
weighed [] = 0
weighed (b ∷ bs) = length (b ∷ bs) * b + weighed bs

-- modulo 256 a factor counts only by its rest
pub rest_of_factor : (m n : ℕ) → m * n ≡ 256 * (m / 256 * n) + m % 256 * n
rest_of_factor m n = omega (arith, ap (λ (x : ℕ). x * n) (sym (div-add-mod m 256)))

sum1-from : (s1 : ℕ) (bs : List ℕ) → s1 < 256 → sum1_from s1 bs ≡ (s1 + total bs) % 256
unfolding sum1_from total
sum1-from s1 [] h = omega arith
sum1-from s1 (b ∷ bs) h = omega (arith, sum1-from ((s1 + b) % 256) bs (omega arith))

-- one byte more, after which sum1 is r: sum2 adds r now, and again for each of the n bytes that follow
one_more : (s2 r n w q t : ℕ) → t ≡ 256 * q + r * suc n → ((s2 + r) % 256 + n * r + w) % 256 ≡ (s2 + t + w) % 256
one_more s2 r n w q t e = omega arith

sum2-from : (s1 s2 : ℕ) (bs : List ℕ) → s2 < 256 → sum2_from s1 s2 bs ≡ (s2 + length bs * s1 + weighed bs) % 256
unfolding sum2_from weighed
sum2-from s1 s2 [] h = omega arith
sum2-from s1 s2 (b ∷ bs) h =
    let r = (s1 + b) % 256 in
    sum2-from r ((s2 + r) % 256) bs (omega arith)
    ∙ one_more s2 r (length bs) (weighed bs) _ _ (rest_of_factor (s1 + b) (length (b ∷ bs)))
    ∙ ap (λ (x : ℕ). x % 256) (omega arith)

pub sum1_total : (bs : List ℕ) → sum1 bs ≡ total bs % 256
sum1_total bs = omega (arith, sum1-from 0 bs (omega arith))

pub sum2_weighed : (bs : List ℕ) → sum2 bs ≡ weighed bs % 256
sum2_weighed bs = omega (arith, sum2-from 0 0 bs (omega arith))
