-- The letters that a number holds are the last of its four bytes: the zeros are taken off the front. By induction on the bytes.
-- Assumes nothing.
use Prim.Native.Nat.{ℕ, suc, ◌-◌, ◌≤◌}
use mathlib.Core.Path.{◌≡◌, refl}
use mathlib.Core.Bool.{Bool, true, false, cond}
use mathlib.Core.List.{List, [], ◌∷◌}
use native.Mathlib.Omega.{arith}
use lib.Dec.{eqb}
use lib.ListN.{length, take, drop}
use lib.Seq.{take_all}
use Rattle.rules.specs.Messages.{without_zeros, word_letters}
use Rattle.kpa.specs.Words.{word_bytes}

-- `rest` is what a list ends with
record Ends (rest bs : List ℕ) : Type 0 where
  most : length rest ≤ length bs
  last : drop (length bs - length rest) bs ≡ rest

without-zeros : (bs : List ℕ) → Ends (without_zeros bs) bs
unfolding without_zeros
without-zeros [] = record { most = omega arith; last = refl }
without-zeros (b ∷ bs) = go (eqb b 0) (without-zeros bs)
  where
    go : (zero : Bool) → Ends (without_zeros bs) bs → Ends (cond zero (without_zeros bs) (b ∷ bs)) (b ∷ bs)
    go true h =
        let one : suc (length bs) - length (without_zeros bs) ≡ suc (length bs - length (without_zeros bs)) = omega (arith, h.most) in
        record { most = omega (arith, h.most); last = rw one h.last }
    go false h =
        let none : suc (length bs) - suc (length bs) ≡ 0 = omega arith in
        record { most = omega arith; last = rw none }

pub few_letters : (n : ℕ) → length (word_letters n) ≤ 4
unfolding word_letters
few_letters n = (without-zeros (word_bytes n)).most

last_letters : (n : ℕ) → drop (4 - length (word_letters n)) (word_bytes n) ≡ word_letters n
unfolding word_letters
last_letters n = (without-zeros (word_bytes n)).last

-- the part of the four bytes from there to their end
pub part_letters : (n k : ℕ) (bytes : List ℕ) → k ≡ length (word_letters n) → bytes ≡ word_bytes n → take (4 - (4 - k)) (drop (4 - k) bytes) ≡ word_letters n
part_letters n k bytes e f =
    rw (e, f, last_letters n) (take_all (4 - (4 - length (word_letters n))) (word_letters n) (omega (arith, few_letters n)))
