-- What the rules ask of the text of a field, as tests of its bytes: one law for each kind of field.
-- A test is turned into bounds of the bytes, and `omega` compares the bounds. Assumes nothing.
use Prim.Native.Nat.{ℕ, zero, suc, ◌+◌, ◌-◌, ◌*◌, ◌^◌, ◌≤◌}
use mathlib.Core.Path.{◌≡◌, refl, sym, ap, ◌∙◌}
use mathlib.Core.Bool.{Bool, true, false, ◌&&◌, ◌||◌, cond, and-true, and_assoc, and_comm, and-eq-true_iff, false≢true}
use mathlib.Core.List.{List, [], ◌∷◌}
use mathlib.Core.Logic.{⊎_elim}
use native.Mathlib.Omega.{arith}
use borrow.Author.Tests.{leb-true, leb-false, le-leb, lt-leb, eqb-true, eqb-false, eq-eqb, ne_eqb}
use lib.Dec.{eqb, leb}
use lib.ListN.{length, replicate}
use Rattle.rules.specs.Bytes.{ascii, one_of, between, every}
use Rattle.rules.specs.Numbers.{is_digit, decimal, decimal_from, padded, padded_number, pointed, pointed_number}
use Rattle.frame_laws.proofs.Bytes.{either, answer, both, both_pass, alike, one_of_these, every_split}
use Rattle.frame_laws.proofs.Numbers.{padded_below, pointed_below}
use Rattle.texts.specs.Parts.{in_bounds}
use Rattle.spe.specs.ReportTests.{follows, none_above_zero}

-- one of two passes if the second does where the first fails
or_else : (a b : Bool) → (a ≡ false → b ≡ true) → (a || b) ≡ true
or_else true b f = refl
or_else false b f = f refl

last_first : (a b c : Bool) → (a && b && c) ≡ (a && c && b)
last_first a b c = and_assoc a b c ∙ ap (λ x. a && x) (and_comm b c) ∙ sym (and_assoc a c b)

-- tests as bounds, and bounds as tests
ruleset parts = (and-eq-true_iff, and-true)

ruleset bounds = (leb-true, le-leb, eqb-true, eq-eqb)

-- a byte that has to be one
pub only : (a b : ℕ) → eqb a b ≡ between b b a
only a b =
    alike _ _
    (λ h. simp parts (omega (arith, bounds)))
    (λ h. let k = simp parts at h in omega (arith, bounds))

-- the digit of the input: 1 or 2
pub input_text : (a : ℕ) → (is_digit a && between 1 2 (a - 48)) ≡ in_bounds (ascii "1") (ascii "2") (a ∷ [])
unfolding in_bounds
input_text a =
    alike _ _
    (λ h. let k = simp parts at h in simp parts (omega (arith, bounds)))
    (λ h. let k = simp parts at h in simp parts (omega (arith, bounds)))

-- the digit of an antenna: to 6 for a 20K, and to 4 for a 13K
antenna_text : (big : Bool) (a : ℕ) → (is_digit a && leb (a - 48) (cond big 6 4)) ≡ (between 48 54 a && cond big true (leb a 52))
antenna_text true a =
    alike _ _
    (λ h. let k = simp parts at h in simp parts (omega (arith, bounds)))
    (λ h. let k = simp parts at h in simp parts (omega (arith, bounds)))
antenna_text false a =
    alike _ _
    (λ h. let k = simp parts at h in simp parts (omega (arith, bounds)))
    (λ h. let k = simp parts at h in simp parts (omega (arith, bounds)))

-- the two digits of the band: to 10 for a 20K, and to 11 for a 13K
module _ (a b limit : ℕ) (small : limit ≤ 57) (digit : 48 ≤ limit) where
  band-to : (every is_digit (a ∷ b ∷ []) && leb (decimal (a ∷ b ∷ [])) (limit - 38))
      ≡ (in_bounds (ascii "00") (ascii "19") (a ∷ b ∷ []) && (eqb a 48 || leb b limit))
  unfolding every decimal_from in_bounds
  band-to =
      alike _ _
      (λ h.
      let k = simp parts at h in
      simp parts (omega (arith, bounds), or_else _ _ (λ e. let n = eqb-false a 48 e in omega (arith, bounds))))
      (λ h.
      let k = simp parts at h in
      ⊎_elim
      (λ (e : eqb a 48 ≡ true). simp parts (omega (arith, bounds)))
      (λ (e : leb b limit ≡ true). simp parts (omega (arith, bounds)))
      (either (eqb a 48) (leb b limit) k.1))

pub band_text : (big : Bool) (a b : ℕ)
    → (every is_digit (a ∷ b ∷ []) && leb (decimal (a ∷ b ∷ [])) (cond big 10 11))
    ≡ (in_bounds (ascii "00") (ascii "19") (a ∷ b ∷ []) && cond big (eqb a 48 || leb b 48) (eqb a 48 || leb b 49))
band_text true a b = band-to a b 48 (omega arith) (omega arith)
band_text false a b = band-to a b 49 (omega arith) (omega arith)

-- the ID: 20 or 13, and K
module _ (a b c : ℕ) where
  abbrev second : Bool
  second = cond (eqb a 50) (eqb b 48) (eqb b 51)

  id_forth : (every is_digit (a ∷ b ∷ []) && eqb c 75 && one_of (20 ∷ 13 ∷ []) (decimal (a ∷ b ∷ []))) ≡ true
      → (in_bounds (ascii "10K") (ascii "23K") (a ∷ b ∷ c ∷ []) && second) ≡ true
  unfolding every decimal_from in_bounds one_of
  id_forth h =
      let k = simp parts at h in
      let n = decimal (a ∷ b ∷ []) in
      ⊎_elim
      (λ (e : eqb n 20 ≡ true). simp (parts, eq-eqb a 50 (omega (arith, bounds))) (omega (arith, bounds)))
      (λ (e : (eqb n 13 || false) ≡ true).
      let f : eqb n 13 ≡ true = ⊎_elim (λ x. x) (λ x. absurd (false≢true x)) (either (eqb n 13) false e) in
      simp (parts, ne_eqb a 50 (omega (arith, bounds))) (omega (arith, bounds)))
      (either (eqb n 20) (eqb n 13 || false) k.1)

  id_back : (in_bounds (ascii "10K") (ascii "23K") (a ∷ b ∷ c ∷ []) && second) ≡ true
      → (every is_digit (a ∷ b ∷ []) && eqb c 75 && one_of (20 ∷ 13 ∷ []) (decimal (a ∷ b ∷ []))) ≡ true
  unfolding every decimal_from in_bounds one_of
  id_back h =
      let k = simp parts at h in
      let n = decimal (a ∷ b ∷ []) in
      ⊎_elim
      (λ (e : eqb a 50 ≡ true).
      let f : eqb b 48 ≡ true = rw e at k.1 in
      simp parts (omega (arith, bounds), ap (λ x. x || (eqb n 13 || false)) (eq-eqb n 20 (omega (arith, bounds)))))
      (λ (e : eqb a 50 ≡ false).
      let f : eqb b 51 ≡ true = rw e at k.1 in
      let g = eqb-false a 50 e in
      simp parts (omega (arith, bounds), or_else (eqb n 20) (eqb n 13 || false) (λ u. ap (λ x. x || false) (eq-eqb n 13 (omega (arith, bounds))))))
      (answer (eqb a 50))

  pub id_text : (every is_digit (a ∷ b ∷ []) && eqb c 75 && one_of (20 ∷ 13 ∷ []) (decimal (a ∷ b ∷ [])))
      ≡ (in_bounds (ascii "10K") (ascii "23K") (a ∷ b ∷ c ∷ []) && second)
  id_text = alike _ _ id_forth id_back

  -- its first digit tells which it is
  pub first_tells : (in_bounds (ascii "10K") (ascii "23K") (a ∷ b ∷ c ∷ []) && second) ≡ true
      → eqb (decimal (a ∷ b ∷ [])) 20 ≡ eqb a 50
  unfolding decimal_from in_bounds
  first_tells h =
      let k = simp parts at h in
      alike _ _
      (λ e. omega (arith, bounds))
      (λ e. let f : eqb b 48 ≡ true = rw e at k.1 in omega (arith, bounds))

-- a letter of some between two others
pub letter_text : (letters : List ℕ) (low high a : ℕ) → every (between low high) letters ≡ true
    → one_of letters a ≡ (in_bounds (low ∷ []) (high ∷ []) (a ∷ []) && one_of letters a)
unfolding in_bounds
letter_text letters low high a all =
    alike _ _
    (λ h. simp parts (simp and-eq-true_iff at (one_of_these (between low high) letters a all h), h))
    (λ h. let k = simp parts at h in k.1)

-- the bank: x for a 20K, A or B for a 13K
pub bank_text : (big : Bool) (a : ℕ)
    → one_of (cond big (ascii "x") (ascii "AB")) a
    ≡ (in_bounds (ascii "A") (ascii "x") (a ∷ []) && cond big (one_of (ascii "x") a) (one_of (ascii "AB") a))
unfolding every
bank_text true a = letter_text (ascii "x") 65 120 a refl
bank_text false a = letter_text (ascii "AB") 65 120 a refl

-- the antenna to transmit with, and the tuner
pub transmit_text : (big : Bool) (a b : ℕ)
    → (is_digit a && leb (a - 48) (cond big 6 4) && one_of (ascii "tba") b)
    ≡ (in_bounds (ascii "0a") (ascii "6t") (a ∷ b ∷ []) && one_of (ascii "tba") b && cond big true (leb a 52))
unfolding every in_bounds
transmit_text big a b =
    (λ i. antenna_text big a i && letter_text (ascii "tba") 97 116 b refl i)
    ∙ alike _ _
    (λ h. let k = simp parts at h in simp parts (search))
    (λ h. let k = simp parts at h in simp parts (search))

-- the antenna to receive with, and r
pub receive_text : (big : Bool) (a b : ℕ)
    → (is_digit a && eqb b 114 && leb (a - 48) (cond big 6 4))
    ≡ (in_bounds (ascii "0r") (ascii "6r") (a ∷ b ∷ []) && cond big true (leb a 52))
unfolding in_bounds
receive_text big a b =
    last_first (is_digit a) (eqb b 114) (leb (a - 48) (cond big 6 4))
    ∙ (λ i. antenna_text big a i && only b 114 i)
    ∙ alike _ _
    (λ h. let k = simp parts at h in simp parts (search))
    (λ h. let k = simp parts at h in simp parts (search))

-- a row of digits
pub digits_text : (t : List ℕ) → every is_digit t ≡ in_bounds (replicate (length t) 48) (replicate (length t) 57) t
unfolding every in_bounds
digits_text [] = refl
digits_text (b ∷ bs) = ap (λ x. is_digit b && x) (digits_text bs)

-- Along a text, each byte may follow the one before it.
unfoldable pub spaces_first : List ℕ → Bool
spaces_first [] = true
spaces_first (a ∷ []) = true
spaces_first (a ∷ b ∷ bs) = follows a b && spaces_first (b ∷ bs)

-- a padded number of n bytes and one more: the last is a digit, and those before it are digits or spaces
abbrev pub lows : ℕ → List ℕ
lows zero = 48 ∷ []
lows (suc n) = 32 ∷ lows n

-- with no space in front, it is digits
no_space : (b : ℕ) (bs : List ℕ) → leb 48 b ≡ true → padded (b ∷ bs) ≡ every is_digit (b ∷ bs)
unfolding padded
no_space b bs h = rw (ne_eqb b 32 (omega (arith, bounds)))

-- behind a digit, a padded number is digits
behind_digit : (b c : ℕ) (cs : List ℕ) (w s : Bool) → padded (c ∷ cs) ≡ (w && s)
    → (is_digit b && every is_digit (c ∷ cs)) ≡ (between 32 57 b && w && (leb 48 b && leb 48 c && s))
behind_digit b c cs w s e =
    alike _ _
    (λ h.
    let k = both (is_digit b) (every is_digit (c ∷ cs)) h in
    let one = simp parts at k.0 in
    let two = simp parts at (every_split is_digit c cs k.1).0 in
    let rest = both w s (sym e ∙ no_space c cs two.0 ∙ k.1) in
    simp parts ((omega (arith, bounds), rest.0), ((one.0, two.0), rest.1)))
    (λ h.
    let k = simp parts at h in
    both_pass (is_digit b) (every is_digit (c ∷ cs)) (simp parts (omega (arith, bounds)))
    (sym (no_space c cs k.1.0.1) ∙ e ∙ both_pass w s k.0.1 k.1.1))

pub padded_text : (b : ℕ) (bs : List ℕ)
    → padded (b ∷ bs) ≡ (in_bounds (lows (length bs)) (replicate (suc (length bs)) 57) (b ∷ bs) && spaces_first (b ∷ bs))
unfolding padded every in_bounds spaces_first
padded_text b [] =
    ⊎_elim
    (λ (e : eqb b 32 ≡ true). rw (eqb-true b 32 e))
    (λ (e : eqb b 32 ≡ false). rw e (simp and-true))
    (answer (eqb b 32))
padded_text b (c ∷ cs) =
    ⊎_elim
    (λ (e : eqb b 32 ≡ true). rw (eqb-true b 32 e) (padded_text c cs))
    (λ (e : eqb b 32 ≡ false). rw e (behind_digit b c cs _ _ (padded_text c cs)))
    (answer (eqb b 32))

-- with a point behind two bytes, and digits behind it
pub pointed_text : (a b c : ℕ) (ds : List ℕ)
    → pointed 2 (a ∷ b ∷ c ∷ ds)
    ≡ (in_bounds (32 ∷ 48 ∷ 46 ∷ replicate (length ds) 48) (57 ∷ 57 ∷ 46 ∷ replicate (length ds) 57) (a ∷ b ∷ c ∷ ds) && spaces_first (a ∷ b ∷ []))
unfolding pointed in_bounds spaces_first
pointed_text a b c ds =
    (λ i. padded_text a (b ∷ []) i && only c 46 i && digits_text ds i)
    ∙ alike _ _
    (λ h. let k = simp parts at h in simp parts (search))
    (λ h. let k = simp parts at h in simp parts (search))

-- A number that has to be at most what its width allows: nothing more is asked.
within_width : (a b : Bool) (n limit : ℕ) → (a ≡ true → n ≤ limit) → a ≡ b → (a && leb n limit) ≡ b
within_width true b n limit small e = le-leb n limit (small refl) ∙ e
within_width false b n limit small e = e

pub number_text : (b : ℕ) (bs : List ℕ) (limit : ℕ) → 10 ^ suc (length bs) ≤ suc limit
    → (padded (b ∷ bs) && leb (padded_number (b ∷ bs)) limit)
    ≡ (in_bounds (lows (length bs)) (replicate (suc (length bs)) 57) (b ∷ bs) && spaces_first (b ∷ bs))
number_text b bs limit room =
    within_width _ _ (padded_number (b ∷ bs)) limit (λ e. omega (arith, padded_below (b ∷ bs) e)) (padded_text b bs)

pub point_text : (a b c : ℕ) (ds : List ℕ) (limit : ℕ) → 10 ^ (2 + length ds) ≤ suc limit
    → (pointed 2 (a ∷ b ∷ c ∷ ds) && leb (pointed_number 2 (a ∷ b ∷ c ∷ ds)) limit)
    ≡ (in_bounds (32 ∷ 48 ∷ 46 ∷ replicate (length ds) 48) (57 ∷ 57 ∷ 46 ∷ replicate (length ds) 57) (a ∷ b ∷ c ∷ ds) && spaces_first (a ∷ b ∷ []))
point_text a b c ds limit room =
    within_width _ _ (pointed_number 2 (a ∷ b ∷ c ∷ ds)) limit
    (λ e. omega (arith, pointed_below 2 (length ds) (a ∷ b ∷ c ∷ ds) (omega arith) e))
    (pointed_text a b c ds)

-- A number is zero exactly when no byte is above the digit 0.
from_least : (n : ℕ) (ds : List ℕ) → n ≤ decimal_from n ds
unfolding decimal_from
from_least n [] = omega arith
from_least n (d ∷ ds) = omega (arith, from_least (n * 10 + (d - 48)) ds)

zero_digits : (ds : List ℕ) → leb (decimal ds) 0 ≡ none_above_zero ds
unfolding every decimal_from
zero_digits [] = refl
zero_digits (d ∷ ds) =
    ⊎_elim
    (λ (e : leb d 48 ≡ true). rw e (ap (λ n. leb (decimal_from n ds) 0) (omega (arith, bounds)) ∙ zero_digits ds))
    (λ (e : leb d 48 ≡ false). rw e (lt-leb (decimal (d ∷ ds)) 0 (omega (arith, leb-false d 48 e, from_least (0 + (d - 48)) ds))))
    (answer (leb d 48))

zero_text : (t : List ℕ) → leb (padded_number t) 0 ≡ none_above_zero t
unfolding every padded_number
zero_text [] = refl
zero_text (b ∷ bs) =
    ⊎_elim
    (λ (e : eqb b 32 ≡ true). rw (eqb-true b 32 e) (zero_text bs))
    (λ (e : eqb b 32 ≡ false). rw e (zero_digits (b ∷ bs)))
    (answer (eqb b 32))

-- the second and third temperature: zero for a 13K
pub warmth_text : (big : Bool) (a b c : ℕ)
    → (padded (a ∷ b ∷ c ∷ []) && leb (padded_number (a ∷ b ∷ c ∷ [])) (cond big 999 0))
    ≡ (in_bounds (lows 2) (ascii "999") (a ∷ b ∷ c ∷ []) && spaces_first (a ∷ b ∷ c ∷ []) && cond big true (none_above_zero (a ∷ b ∷ c ∷ [])))
warmth_text true a b c = number_text a (b ∷ c ∷ []) 999 (omega arith) ∙ sym (and-true _)
warmth_text false a b c = λ i. padded_text a (b ∷ c ∷ []) i && zero_text (a ∷ b ∷ c ∷ []) i
