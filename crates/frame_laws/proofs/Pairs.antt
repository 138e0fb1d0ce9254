-- Laws of what stands behind a message's letters: a number with all its digits, and pairs of digits with marks between them,
-- each written and read again. Said over the marks, by induction on them, so once for a version and for a clock.
-- Assumes nothing.
use Prim.Native.Nat.{ℕ, zero, suc, ◌+◌, ◌*◌, ◌^◌, ◌≤◌, ◌<◌}
use mathlib.Core.Path.{◌≡◌, refl, sym, ap, ap₂, ◌∙◌, subst⁻¹}
use mathlib.Core.Bool.{Bool, true}
use mathlib.Core.List.{List, [], ◌∷◌, ◌++◌}
use native.Mathlib.Omega.{arith}
use lib.Dec.{leb}
use lib.ListN.{length, take, drop, get_or, length-drop, length-take}
use lib.Seq.{drop-drop, take_all, split_at}
use borrow.Author.Tests.{eqb-true, eq-eqb, leb-true, le-leb}
use Rattle.rules.specs.Bytes.{every}
use Rattle.rules.specs.Numbers.{is_digit, decimal, with_zeros}
use Rattle.rules.specs.Messages.{is_number, are_pairs, pair_at, pairs_text}
use Rattle.frame_laws.proofs.Bytes.{tests, both_left, both_right, both_pass, every_cons, every_append, every_take, every_weaker}
use Rattle.frame_laws.proofs.Numbers.{decimal_below, zeros_length, zeros_digits, zeros_read, zeros_write}

-- A row of so many digits is its number, written out.
digits_again : (w : ℕ) (t : List ℕ) → length t ≡ w → every is_digit t ≡ true → with_zeros w (decimal t) ≡ t
digits_again w t l e = rw (← l) (zeros_write t e)

-- A number up to its limit, in all its digits, is such a text and comes back; and such a text is its number written out.
module _ (width limit : ℕ) where
  pub number_good : (n : ℕ) → n ≤ limit → limit < 10 ^ width → is_number width limit (with_zeros width n) ≡ true
  unfolding is_number
  number_good n low high =
      let fits : n < 10 ^ width = omega arith in
      rw (zeros_length width n, zeros_digits width n fits, zeros_read width n fits, eq-eqb width width refl) (le-leb n limit low)

  pub number_again : (t : List ℕ) → is_number width limit t ≡ true → with_zeros width (decimal t) ≡ t
  unfolding is_number
  number_again t e = digits_again width t (eqb-true (length t) width (search tests)) (search tests)

-- The first n pairs from the k-th on; those of a text with these marks. A pair behind the first stands three bytes on.
abbrev pairs_from : ℕ → ℕ → List ℕ → List ℕ
pairs_from zero k t = []
pairs_from (suc n) k t = pair_at t k ∷ pairs_from n (suc k) t

abbrev pub pairs_in : List ℕ → List ℕ → List ℕ
pairs_in marks t = pairs_from (suc (length marks)) 0 t

pairs_on : (n k : ℕ) (t : List ℕ) → pairs_from n (suc k) t ≡ pairs_from n k (drop 3 t)
pairs_on zero k t = refl
pairs_on (suc n) k t =
    let places : 3 * suc k ≡ 3 + 3 * k = omega arith in
    ap₂ (λ (x : ℕ) (xs : List ℕ). x ∷ xs)
    (ap (λ (j : ℕ). decimal (take 2 (drop j t))) places ∙ ap (λ (l : List ℕ). decimal (take 2 l)) (sym (drop-drop (3 * k) 3 t)))
    (pairs_on n (suc k) t)

-- a number of two digits
abbrev pub is_pair : ℕ → Bool
is_pair n = leb n 99

two_digits : (n : ℕ) → is_pair n ≡ true → n < 100
two_digits n e = omega (arith, leb-true n 99 e)

-- Numbers of two digits, as many as there are marks and one more, are written as pairs, and come back.
pub pairs_good : (marks ns : List ℕ) → length ns ≡ suc (length marks) → every is_pair ns ≡ true → are_pairs marks (pairs_text marks ns) ≡ true
unfolding are_pairs pairs_text with_zeros every
pairs_good [] [] l e = absurd (omega arith)
pairs_good [] (n ∷ []) l e = zeros_digits 2 n (two_digits n (search tests))
pairs_good [] (n ∷ m ∷ ns) l e = absurd (omega arith)
pairs_good (c ∷ cs) [] l e = absurd (omega arith)
pairs_good (c ∷ cs) (n ∷ ns) l e =
    both_pass _ _ (both_pass _ _ (zeros_digits 2 n (two_digits n (search tests))) (eq-eqb c c refl))
    (pairs_good cs ns (omega arith) (search tests))

pub pairs_read : (marks ns : List ℕ) → length ns ≡ suc (length marks) → every is_pair ns ≡ true → pairs_in marks (pairs_text marks ns) ≡ ns
unfolding pairs_text with_zeros every
pairs_read [] [] l e = absurd (omega arith)
pairs_read [] (n ∷ []) l e = ap (λ (x : ℕ). x ∷ []) (zeros_read 2 n (two_digits n (search tests)))
pairs_read [] (n ∷ m ∷ ns) l e = absurd (omega arith)
pairs_read (c ∷ cs) [] l e = absurd (omega arith)
pairs_read (c ∷ cs) (n ∷ ns) l e =
    ap₂ (λ (x : ℕ) (xs : List ℕ). x ∷ xs)
    (zeros_read 2 n (two_digits n (search tests)))
    (pairs_on (suc (length cs)) 0 (pairs_text (c ∷ cs) (n ∷ ns)) ∙ pairs_read cs ns (omega arith) (search tests))

-- A text of pairs is as long as its marks ask, so that each mark stands behind two digits;
pub pairs_length : (marks t : List ℕ) → are_pairs marks t ≡ true → length t ≡ 3 * length marks + 2
unfolding are_pairs
pairs_length [] t e = eqb-true (length t) 2 (search tests)
pairs_length (c ∷ cs) t e = omega (arith, pairs_length cs (drop 3 t) (search tests), length-drop 3 t)

pub pairs_front : (marks t : List ℕ) → are_pairs marks t ≡ true → every is_digit (take 2 t) ≡ true
unfolding are_pairs
pairs_front [] t e = every_take is_digit 2 t (search tests)
pairs_front (c ∷ cs) t e = search tests

module _ (marks t : List ℕ) (e : are_pairs marks t ≡ true) where
  front_two : length (take 2 t) ≡ 2
  front_two = omega (arith, length-take 2 t, pairs_length marks t e)

  front_again : with_zeros 2 (pair_at t 0) ≡ take 2 t
  front_again = digits_again 2 (take 2 t) front_two (pairs_front marks t e)

  front_pair : is_pair (pair_at t 0) ≡ true
  front_pair = le-leb (pair_at t 0) 99 (omega (arith, rw front_two at (decimal_below (take 2 t) (pairs_front marks t e))))

-- its pairs are numbers of two digits, and written out they are the text;
pub pairs_below : (marks t : List ℕ) → are_pairs marks t ≡ true → every is_pair (pairs_in marks t) ≡ true
unfolding are_pairs every
pairs_below [] t e = every_cons is_pair (pair_at t 0) [] (front_pair [] t e) refl
pairs_below (c ∷ cs) t e =
    every_cons is_pair (pair_at t 0) (pairs_from (suc (length cs)) 1 t) (front_pair (c ∷ cs) t e)
    (ap (every is_pair) (pairs_on (suc (length cs)) 0 t) ∙ pairs_below cs (drop 3 t) (search tests))

pub pairs_again : (marks t : List ℕ) → are_pairs marks t ≡ true → pairs_text marks (pairs_in marks t) ≡ t
unfolding are_pairs pairs_text
pairs_again [] t e = front_again [] t e ∙ take_all 2 t (omega (arith, pairs_length [] t e))
pairs_again (c ∷ cs) t e =
    let front = front_again (c ∷ cs) t e in
    let mark = sym (eqb-true (get_or t 2 0) c (search tests)) in
    let rest = ap (pairs_text cs) (pairs_on (suc (length cs)) 0 t) ∙ pairs_again cs (drop 3 t) (search tests) in
    (λ i. front i ++ mark i ∷ rest i) ∙ sym (split_at t 2 0 (omega (arith, pairs_length (c ∷ cs) t e)))

-- and what holds of digits and of the marks holds of each of its bytes.
pub pairs_bytes : (test : ℕ → Bool) → ((b : ℕ) → is_digit b ≡ true → test b ≡ true)
    → (marks t : List ℕ) → every test marks ≡ true → are_pairs marks t ≡ true → every test t ≡ true
unfolding are_pairs every
pairs_bytes test digits [] t m e = every_weaker is_digit test digits t (search tests)
pairs_bytes test digits (c ∷ cs) t m e =
    let mark = ap test (eqb-true (get_or t 2 0) c (search tests)) ∙ both_left (test c) (every test cs) m in
    let rest = pairs_bytes test digits cs (drop 3 t) (both_right (test c) (every test cs) m) (search tests) in
    let front = every_weaker is_digit test digits (take 2 t) (pairs_front (c ∷ cs) t e) in
    subst⁻¹ (λ (l : List ℕ). every test l ≡ true) (split_at t 2 0 (omega (arith, pairs_length (c ∷ cs) t e)))
    (every_append test (take 2 t) (get_or t 2 0 ∷ drop 3 t) front (every_cons test (get_or t 2 0) (drop 3 t) mark rest))
