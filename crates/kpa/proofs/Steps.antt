-- One step along the letters that bytes begin with, and along a number that is made of letters.
-- Assumes nothing.
use Prim.Native.Nat.{ℕ, ◌+◌, ◌-◌, ◌*◌, ◌^◌, ◌≤◌, ◌<◌}
use mathlib.Core.Path.{◌≡◌}
use mathlib.Core.Bool.{Bool, true, false, cond}
use mathlib.Core.List.{List, [], ◌∷◌}
use native.Mathlib.Nat.{lt_of_lt_of_le, pow-suc, pow-le-pow_right}
use native.Mathlib.Numerals.{add-one}
use native.Mathlib.Omega.{arith}
use lib.Arith.{digits_lt}
use lib.Dec.{lit<}
use lib.ListN.{length, drop, get_or}
use Rattle.rules.specs.Messages.{is_small, is_letter, capital, letter_run}
use Rattle.texts.proofs.Steps.{at, done}

module _ (s : List ℕ) (n : ℕ) where
  pub ends : n < length s → is_letter (get_or s n 0) ≡ false → letter_run (drop n s) ≡ []
  unfolding letter_run
  ends h e = rw (at s n h, e)

  pub goes_on : n < length s → is_letter (get_or s n 0) ≡ true → letter_run (drop n s) ≡ get_or s n 0 ∷ letter_run (drop (n + 1) s)
  unfolding letter_run
  goes_on h e = rw (at s n h, e)

  pub no_more : length s ≤ n → letter_run (drop n s) ≡ []
  unfolding letter_run
  no_more h = rw (done s n h)

-- i letters make a number below 256 ^ i, and with i at most 3 one that can grow by a letter
pub small : {n i : ℕ} → n < 256 ^ i → i ≤ 3 → n < 2 ^ 24
small h k = lt_of_lt_of_le h (pow-le-pow_right (lit< tt) k)

pub grown : {n b : ℕ} (i : ℕ) → n < 256 ^ i → b < 256 → n * 256 + b < 256 ^ (i + 1)
grown i h k = rw (add-one, pow-suc) (digits_lt h k)

-- the capital of a byte is a byte
pub capital_fits : (b : ℕ) → b < 256 → capital b < 256
unfolding capital
capital_fits b h = go (is_small b)
  where
    go : (lower : Bool) → cond lower (b - 32) b < 256
    go true = omega arith
    go false = h
