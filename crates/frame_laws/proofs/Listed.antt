-- Laws of the listed letters of messages: which they are, that they are capitals, and what may stand behind them. Each is
-- computed once, over the numbers that `behind` lists, as one test. Assumes nothing.
use Prim.Native.Nat.{ℕ, ◌^◌, ◌≤◌, ◌<◌}
use mathlib.Core.Path.{◌≡◌, refl, sym, ap, ◌∙◌}
use mathlib.Core.Bool.{Bool, true, false, ◌&&◌, false≢true}
use mathlib.Core.List.{List}
use mathlib.Core.Logic.{⊎_elim}
use native.Mathlib.Omega.{arith}
use lib.Dec.{eqb, leb, ltb}
use lib.ListN.{length}
use borrow.Author.Tests.{eqb-true, leb-true, leb-false, ltb-true}
use Rattle.rules.specs.Bytes.{ascii, one_of, between, every}
use Rattle.rules.specs.Messages.{is_capital, word_from, word, without_zeros, word_letters, powers, five_digits, behind, is_asked}
use Rattle.rules.specs.declared.Behind.{Behind}
use Rattle.rules.specs.declared.Behind.TheVariants.{ANumber, AVersion, AClock, Alone, Anything}
use Rattle.frame_laws.proofs.Bytes.{tests, both_right, answer, between_bounds, one_of_these}
use Rattle.frame_laws.proofs.Letters.{long_word, letters_back}
use Rattle.frame_laws.proofs.Reading.{choice}

-- Letters are listed where not just anything may stand behind them.
abbrev pub is_listed : Behind → Bool
is_listed (ANumber width limit) = true
is_listed AVersion = true
is_listed AClock = true
is_listed Alone = true
is_listed Anything = false

-- Letters that may be asked for are listed.
pub asked_listed : (b : Behind) → is_asked b ≡ true → is_listed b ≡ true
asked_listed (ANumber width limit) e = refl
asked_listed AVersion e = refl
asked_listed AClock e = refl
asked_listed Alone e = refl
asked_listed Anything e = e

-- The test: what may stand behind a number's letters is theirs alone, and a number there has 1 to 5 digits and fits them;
abbrev fits_behind : ℕ → Behind → Bool
fits_behind n (ANumber width limit) = between 1 5 width && ltb limit (10 ^ width)
fits_behind n AVersion = eqb n (word (ascii "RV"))
fits_behind n AClock = eqb n (word (ascii "CC"))
fits_behind n Alone = eqb n (word (ascii "FT"))
fits_behind n Anything = true

-- and they are two or three capitals, found again from their number, which is below 2 ^ 24.
abbrev fits_letters : ℕ → Bool
fits_letters n =
    every is_capital (word_letters n) && between 2 3 (length (word_letters n)) && eqb (word (word_letters n)) n && ltb n (2 ^ 24)

-- Every listed number passes it.
listed_fits : (n : ℕ) → is_listed (behind n) ≡ true → (fits_letters n && fits_behind n (behind n)) ≡ true
unfolding behind one_of every word_from word_letters without_zeros
listed_fits n =
    let Fits : Behind → Type 0 = λ b. is_listed b ≡ true → (fits_letters n && fits_behind n b) ≡ true in
    choice Fits (one_of powers n) _ _ (λ e _. these (ANumber 4 9999) powers refl e)
    (λ _. choice Fits (one_of five_digits n) _ _ (λ e _. these (ANumber 5 99999) five_digits refl e)
    (λ _. choice Fits (eqb n (word (ascii "FS"))) _ _ (λ e _. this (ANumber 1 5) (word (ascii "FS")) refl e)
    (λ _. choice Fits (eqb n (word (ascii "HS"))) _ _ (λ e _. this (ANumber 1 1) (word (ascii "HS")) refl e)
    (λ _. choice Fits (eqb n (word (ascii "RV"))) _ _ (λ e _. this AVersion (word (ascii "RV")) refl e)
    (λ _. choice Fits (eqb n (word (ascii "CC"))) _ _ (λ e _. this AClock (word (ascii "CC")) refl e)
    (λ _. choice Fits (eqb n (word (ascii "FT"))) _ _ (λ e _. this Alone (word (ascii "FT")) refl e)
    (λ _ e. absurd (false≢true e))))))))
  where
    these : (b : Behind) (cs : List ℕ) → every (λ (c : ℕ). fits_letters c && fits_behind c b) cs ≡ true → one_of cs n ≡ true
        → (fits_letters n && fits_behind n b) ≡ true
    these b cs e one = one_of_these (λ (c : ℕ). fits_letters c && fits_behind c b) cs n e one

    this : (b : Behind) (c : ℕ) → (fits_letters c && fits_behind c b) ≡ true → eqb n c ≡ true → (fits_letters n && fits_behind n b) ≡ true
    this b c e same = ap (λ (x : ℕ). fits_letters x && fits_behind x b) (eqb-true n c same) ∙ e

-- So the letters that a listed number stands for
module _ (n : ℕ) (listed : is_listed (behind n) ≡ true) where
  -- are capitals,
  pub listed_capitals : every is_capital (word_letters n) ≡ true
  listed_capitals = let e = listed_fits n listed in search tests

  -- two or three of them,
  pub listed_length : (2 ≤ length (word_letters n)) × (length (word_letters n) ≤ 3)
  listed_length = let e = listed_fits n listed in between_bounds 2 3 (length (word_letters n)) (search tests)

  -- and give the number again,
  pub listed_word : word (word_letters n) ≡ n
  listed_word = let e = listed_fits n listed in eqb-true (word (word_letters n)) n (search tests)

  -- which is small.
  listed_small : n < 2 ^ 24
  listed_small = let e = listed_fits n listed in ltb-true n (2 ^ 24) (search tests)

-- What stands behind them fits:
fits-behind : (n : ℕ) (b : Behind) → behind n ≡ b → is_listed b ≡ true → fits_behind n b ≡ true
fits-behind n b e listed = both_right (fits_letters n) (fits_behind n b) (rw e at (listed_fits n (rw e listed)))

-- a number has 1 to 5 digits, and its limit fits them;
pub number_fits : (n width limit : ℕ) → behind n ≡ ANumber width limit → (1 ≤ width) × (width ≤ 5) × (limit < 10 ^ width)
number_fits n width limit e =
    let fits = fits-behind n (ANumber width limit) e refl in
    let digits = between_bounds 1 5 width (search tests) in
    (digits.0, digits.1, ltb-true limit (10 ^ width) (search tests))

-- a version stands behind RV alone, a date and a time behind CC, and FT is alone.
pub version_word : (n : ℕ) → behind n ≡ AVersion → n ≡ word (ascii "RV")
version_word n e = eqb-true n (word (ascii "RV")) (fits-behind n AVersion e refl)

pub clock_word : (n : ℕ) → behind n ≡ AClock → n ≡ word (ascii "CC")
clock_word n e = eqb-true n (word (ascii "CC")) (fits-behind n AClock e refl)

pub alone_word : (n : ℕ) → behind n ≡ Alone → n ≡ word (ascii "FT")
alone_word n e = eqb-true n (word (ascii "FT")) (fits-behind n Alone e refl)

-- Capitals whose number is listed are those that it stands for, since they are few;
pub listed_letters : (t : List ℕ) → every is_capital t ≡ true → is_listed (behind (word t)) ≡ true → t ≡ word_letters (word t)
listed_letters t capitals listed =
    ⊎_elim
    (λ (h : leb (length t) 4 ≡ true). sym (letters_back t capitals (leb-true (length t) 4 h)))
    (λ (h : leb (length t) 4 ≡ false).
    absurd (omega (arith, long_word t capitals (leb-false (length t) 4 h), listed_small (word t) listed)))
    (answer (leb (length t) 4))

-- more than four are not listed.
pub long_unlisted : (t : List ℕ) → every is_capital t ≡ true → 4 < length t → behind (word t) ≡ Anything
long_unlisted t capitals long = by_behind (behind (word t)) refl
  where
    unlisted : is_listed (behind (word t)) ≡ true → ⊥
    unlisted listed = omega (arith, long_word t capitals long, listed_small (word t) listed)

    by_behind : (b : Behind) → behind (word t) ≡ b → b ≡ Anything
    by_behind (ANumber width limit) e = absurd (unlisted (rw e))
    by_behind AVersion e = absurd (unlisted (rw e))
    by_behind AClock e = absurd (unlisted (rw e))
    by_behind Alone e = absurd (unlisted (rw e))
    by_behind Anything e = refl
