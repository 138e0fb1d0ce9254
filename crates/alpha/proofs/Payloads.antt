-- The tests of a payload, as they are read: its name, its number, and its check digits.
-- Each goes by cases on the tests. Assumes nothing.
use Prim.Native.Nat.{ℕ, ◌-◌, ◌≤◌, ◌<◌}
use Rattle.std.specs.Prelude.{Ok, Option, Some, None, cond, MatchOption}
use Rattle.std.specs.Borrow.{Bor}
use Rattle.std.specs.List.{HoldsAt}
use mathlib.Core.Path.{◌≡◌, refl, sym, ap, ◌∙◌}
use mathlib.Core.Bool.{Bool, true, false, ◌&&◌, and_assoc, and-true, and-false}
use mathlib.Core.List.{List}
use native.Mathlib.Omega.{arith}
use lib.Dec.{eqb}
use lib.ListN.{length, take, drop, get_or, length-drop, drop_of_length-le}
use lib.Seq.{length-take-le, take_all}
use borrow.Author.Tests.{ne_eqb}
use lib.Pointwise.{pointwise}
use Rattle.rules.specs.Bytes.{ascii, part, every, same}
use Rattle.rules.specs.Numbers.{is_digit, decimal, is_hex_digit, hex_number}
use Rattle.rules.specs.Sentences.{nothing_or_comma, gives_sums, sum1, sum2, number_of}
use Rattle.rules.specs.Answers.{read_texts}
use Rattle.rules.specs.declared.Frame.TheVariants.{Other}
use Rattle.frame_laws.proofs.Bytes.{one_by_one}
use Rattle.texts.specs.Numbers.{digits_in}
use Rattle.texts.proofs.Steps.{at as from_place}
use Rattle.texts.proofs.Equal.{is_same, same_turned}
use Rattle.checksums.specs.Hex.{pair_in}
use Rattle.std.specs.Option.{option_eq, is_some}
use Rattle.checksums.proofs.Digits.{pair_gives}
use Rattle.alpha.specs.Fields.{Text}
use Rattle.alpha.specs.Readings.{as02, as03, as05}
use Rattle.alpha.proofs.Texts.{count_below}

given : (test : Bool) (n : ℕ) → is_some (cond test (Some n) None) ≡ test
given true n = refl
given false n = refl

-- Behind `APA` stand two digits, and then nothing or a comma.
module _ (p : List ℕ) where
  ends_here : length p ≤ 5 → nothing_or_comma (drop 5 p) ≡ true
  ends_here h = rw (drop_of_length-le p h)

  goes_on : 5 < length p → nothing_or_comma (drop 5 p) ≡ eqb (get_or p 5 0) 44
  goes_on h = rw (from_place p 5 h)

  -- what is found at place 5, and what is then said of it
  pub behind_number : (found : Option (Bor ℕ)) {said : Bool} {Says : Bor ℕ → Type 0}
      → MatchOption found (length p ≤ 5) (λ b. (5 < length p) × HoldsAt (λ n. b.now ≡ n) p 5)
      → MatchOption found (said ≡ true) Says → ((b : Bor ℕ) → Says b → said ≡ eqb b.now 44)
      → said ≡ nothing_or_comma (drop 5 p)
  behind_number None h e told = e ∙ sym (ends_here h)
  behind_number (Some b) h e told = told b e ∙ ap (λ (n : ℕ). eqb n 44) (h.1 0) ∙ sym (goes_on h.0)

  module _ (h : 5 ≤ length p) where
    number_length : length (part 3 2 p) ≡ 2
    number_length = length-take-le 2 (drop 3 p) (omega (arith, length-drop 3 p))

    pub number_test : is_some (digits_in (part 3 2 p)) ≡ every is_digit (part 3 2 p)
    unfolding digits_in
    number_test = rw number_length (given (every is_digit (part 3 2 p)) (decimal (part 3 2 p)))

    module _ (digits : every is_digit (part 3 2 p) ≡ true) where
      digits_read : digits_in (part 3 2 p) ≡ Some (number_of p)
      unfolding digits_in
      digits_read = rw (number_length, digits)

      pub the_number : {n : ℕ} → Some n ≡ digits_in (part 3 2 p) → n ≡ number_of p
      the_number e = let f = e ∙ digits_read in cc

      pub is_number : None ≡ digits_in (part 3 2 p) → ⊥
      is_number e = let f = e ∙ digits_read in cc

      pub number_small : number_of p < 100
      number_small = count_below 2 (part 3 2 p) (omega (arith, number_length)) digits

-- The front of a payload is `APA` where it starts with it.
pub named : (p : List ℕ) → pointwise eqb (ascii "APA") (take 3 p) ≡ same (take 3 p) (ascii "APA")
named p = is_same (ascii "APA") (take 3 p) ∙ same_turned (take 3 p) (ascii "APA")

-- What stands behind the number, to the end.
pub behind : (p : List ℕ) → take (length p - 5) (drop 5 p) ≡ drop 5 p
behind p = take_all (length p - 5) (drop 5 p) (omega (arith, length-drop 5 p))

-- The check digits, two by two, behind a test of the bytes.
digits_first : (a b e c d f : Bool) → (a && b && e) && (c && d && f) ≡ a && (b && (c && (d && true))) && e && f
digits_first true true true c d f = simp and-true
digits_first true true false c d f = simp and-false
digits_first true false e c d f = refl
digits_first false b e c d f = refl

pub checked : (allowed : Bool) (check p : List ℕ) → length check ≡ 4
    → allowed && option_eq eqb (pair_in (get_or check 0 0) (get_or check 1 0)) (Some (sum2 p)) && option_eq eqb (pair_in (get_or check 2 0) (get_or check 3 0)) (Some (sum1 p))
    ≡ allowed && gives_sums check p
unfolding gives_sums every
checked allowed check p four =
    let b : ℕ → ℕ = λ k. get_or check k 0 in
    rw (pair_gives (b 0) (b 1) (sum2 p), pair_gives (b 2) (b 3) (sum1 p))
    (and_assoc allowed _ _
    ∙ ap (λ (t : Bool). allowed && t)
    (digits_first (is_hex_digit (b 0)) _ (eqb (hex_number (b 0) (b 1)) (sum2 p)) (is_hex_digit (b 2)) (is_hex_digit (b 3)) _
    ∙ ap (λ (l : List ℕ). gives_sums l p) (one_by_one 0 4 check four)))

-- The answer, by the number.
module _ (n : ℕ) (ts : List Text) where
  pub by02 : n ≡ 2 → read_texts n ts ≡ as02 ts
  unfolding read_texts
  by02 e = rw e

  pub by03 : n ≡ 3 → read_texts n ts ≡ as03 ts
  unfolding read_texts
  by03 e = rw e

  pub by05 : n ≡ 5 → read_texts n ts ≡ as05 ts
  unfolding read_texts
  by05 e = rw e

  pub as_other : (n ≡ 2 → ⊥) → (n ≡ 3 → ⊥) → (n ≡ 5 → ⊥) → read_texts n ts ≡ Ok (Other n)
  unfolding read_texts
  as_other p q r = rw (ne_eqb n 2 p, ne_eqb n 3 q, ne_eqb n 5 r)
