-- Laws of a message's letters: capitals, the run of letters at the front of a body, and letters as one number or as ten.
-- A number has the letters as its digits to the base 256, which go by induction on the row, as decimal digits do; and at
-- most four letters are found again as its four bytes, since none of them is zero. Assumes nothing.
use Prim.Native.Nat.{ℕ, zero, suc, ◌+◌, ◌-◌, ◌*◌, ◌/◌, ◌%◌, ◌^◌, ◌≤◌, ◌<◌}
use mathlib.Core.Path.{◌≡◌, refl, sym, ap, ap₂, ◌∙◌}
use mathlib.Core.Bool.{true, false, and-eq-true_iff}
use mathlib.Core.List.{List, [], ◌∷◌, ◌++◌, map, flat_map}
use mathlib.Core.Logic.{⊎_elim}
use native.Mathlib.Nat.{zero-add, pow-suc, pow-le-pow_right, mul-le-mul_right}
use native.Mathlib.Omega.{arith}
use lib.Arith.{digits_lt}
use lib.Dec.{lit<}
use lib.ListN.{length, take, drop, length-append, length-take}
use lib.Seq.{take_all, take-add, drop-drop, drop-append_seam}
use borrow.Author.Tests.{leb-true, le-leb, lt-leb, ne_eqb}
use Rattle.rules.specs.Bytes.{every, first}
use Rattle.rules.specs.Messages.{is_small, is_capital, is_letter, capital, letter_run, letters_in, behind_letters, word_from, word, without_zeros, word_letters, letters_of, word_at, as_letters}
use Rattle.frame_laws.proofs.Bytes.{answer, either, between_bounds, bounds_between, every_cons, every_split, every_weaker, every_take, every_drop}
use Rattle.frame_laws.proofs.SentenceFields.{is_byte}

-- A capital is a letter, and is read as itself;
pub capital_letter : (b : ℕ) → is_capital b ≡ true → is_letter b ≡ true
unfolding is_letter
capital_letter b e = rw e

pub capital_same : (b : ℕ) → is_capital b ≡ true → capital b ≡ b
unfolding capital
capital_same b e = let h = between_bounds 65 90 b e in rw (lt-leb 97 b (omega arith))

-- and every letter is read as a capital.
pub letter_capital : (b : ℕ) → is_letter b ≡ true → is_capital (capital b) ≡ true
unfolding is_letter capital
letter_capital b e =
    ⊎_elim
    (λ (h : is_capital b ≡ true). ap is_capital (capital_same b h) ∙ h)
    (λ (h : is_small b ≡ true). let r = between_bounds 97 122 b h in rw h (bounds_between 65 90 (b - 32) (omega arith) (omega arith)))
    (either (is_capital b) (is_small b) e)

-- The same of a row of them.
pub capitals_letters : (t : List ℕ) → every is_capital t ≡ true → every is_letter t ≡ true
capitals_letters = every_weaker is_capital is_letter capital_letter

pub capitals_same : (t : List ℕ) → every is_capital t ≡ true → map capital t ≡ t
capitals_same [] e = refl
capitals_same (b ∷ bs) e =
    let h = every_split is_capital b bs e in
    ap₂ (λ (x : ℕ) (xs : List ℕ). x ∷ xs) (capital_same b h.0) (capitals_same bs h.1)

pub letters_capitals : (t : List ℕ) → every is_letter t ≡ true → every is_capital (map capital t) ≡ true
unfolding every
letters_capitals [] e = refl
letters_capitals (b ∷ bs) e =
    let h = every_split is_letter b bs e in
    every_cons is_capital (capital b) (map capital bs) (letter_capital b h.0) (letters_capitals bs h.1)

-- The run at the front of a body: letters, behind which no letter stands.
pub run_letters : (body : List ℕ) → every is_letter (letter_run body) ≡ true
unfolding letter_run every
run_letters [] = refl
run_letters (b ∷ bs) =
    ⊎_elim
    (λ (h : is_letter b ≡ true). rw h (every_cons is_letter b (letter_run bs) h (run_letters bs)))
    (λ (h : is_letter b ≡ false). rw h)
    (answer (is_letter b))

pub run_ends : (body : List ℕ) → is_letter (first (behind_letters body)) ≡ false
unfolding letter_run
run_ends [] = unfold is_letter in refl
run_ends (b ∷ bs) =
    ⊎_elim
    (λ (h : is_letter b ≡ true). rw h (run_ends bs))
    (λ (h : is_letter b ≡ false). rw h h)
    (answer (is_letter b))

pub run_front : (body : List ℕ) → letter_run body ++ behind_letters body ≡ body
unfolding letter_run
run_front [] = refl
run_front (b ∷ bs) =
    ⊎_elim
    (λ (h : is_letter b ≡ true). rw h (ap (λ (l : List ℕ). b ∷ l) (run_front bs)))
    (λ (h : is_letter b ≡ false). rw h)
    (answer (is_letter b))

pub run_length : (body : List ℕ) → length (letter_run body) ≤ length body
run_length body = omega (arith, ap length (run_front body), length-append (letter_run body) (behind_letters body))

-- Letters in front of what does not begin with one are that run, and what stands behind it is found again.
no_run : (t : List ℕ) → is_letter (first t) ≡ false → letter_run t ≡ []
unfolding letter_run
no_run [] e = refl
no_run (b ∷ bs) e = rw e

pub letters_run : (ls t : List ℕ) → every is_letter ls ≡ true → is_letter (first t) ≡ false → letter_run (ls ++ t) ≡ ls
unfolding letter_run
letters_run [] t e end = no_run t end
letters_run (b ∷ bs) t e end =
    let h = every_split is_letter b bs e in
    rw h.0 (ap (λ (l : List ℕ). b ∷ l) (letters_run bs t h.1 end))

pub letters_behind : (ls t : List ℕ) → every is_letter ls ≡ true → is_letter (first t) ≡ false → behind_letters (ls ++ t) ≡ t
letters_behind ls t e end = rw (letters_run ls t e end) (drop-append_seam ls t)

-- The letters of a body, as they are read, are capitals.
pub in_capitals : (body : List ℕ) → every is_capital (letters_in body) ≡ true
in_capitals body = letters_capitals (letter_run body) (run_letters body)

-- Read on from n, a row counts n as many times 256 as it is long.
carry : (n x p e : ℕ) → (n * 256 + x) * p + e ≡ n * (p * 256) + ((0 + x) * p + e)
carry n x p e = omega arith

word-from : (n : ℕ) (t : List ℕ) → word_from n t ≡ n * 256 ^ length t + word t
unfolding word_from
word-from n [] = omega arith
word-from n (b ∷ bs) =
    word-from (n * 256 + b) bs
    ∙ carry n b (256 ^ length bs) (word bs)
    ∙ ap₂ (λ (p e : ℕ). n * p + e) (sym (pow-suc 256 (length bs))) (sym (word-from (0 + b) bs))

word_cons : (b : ℕ) (bs : List ℕ) → word (b ∷ bs) ≡ b * 256 ^ length bs + word bs
unfolding word_from
word_cons b bs = word-from (0 + b) bs ∙ rw zero-add

-- A row of capitals is below the power of 256 by its length, and one of more than four is at least the fourth.
pub word_below : (t : List ℕ) → every is_capital t ≡ true → word t < 256 ^ length t
unfolding word_from
word_below [] e = lit< tt
word_below (b ∷ bs) e =
    let h = every_split is_capital b bs e in
    let r = between_bounds 65 90 b h.0 in
    omega (arith, word_cons b bs, pow-suc 256 (length bs), digits_lt {q = b} {m = 256} (omega arith) (word_below bs h.1))

pub long_word : (t : List ℕ) → every is_capital t ≡ true → 4 < length t → 2 ^ 32 ≤ word t
long_word [] e long = absurd (omega arith)
long_word (b ∷ bs) e long =
    let r = between_bounds 65 90 b (every_split is_capital b bs e).0 in
    let most = pow-le-pow_right {n = 256} (lit< tt) {i = 4} {j = length bs} (omega arith) in
    omega (arith, word_cons b bs, mul-le-mul_right {m = 1} {n = b} (256 ^ length bs) (omega arith))

-- Four bytes are found again in their number, and no zero stands in front of capitals;
four_bytes : (a b c d : ℕ) → every is_byte (a ∷ b ∷ c ∷ d ∷ []) ≡ true
    → word_letters (word (a ∷ b ∷ c ∷ d ∷ [])) ≡ without_zeros (a ∷ b ∷ c ∷ d ∷ [])
unfolding word_letters word_from every
four_bytes a b c d bytes =
    let h = simp and-eq-true_iff at bytes in
    let n = (((0 + a) * 256 + b) * 256 + c) * 256 + d in
    let p = leb-true a 255 h.0 in
    let q = leb-true b 255 h.1.0 in
    let r = leb-true c 255 h.1.1.0 in
    let s = leb-true d 255 h.1.1.1.0 in
    let first : n / 2 ^ 24 % 256 ≡ a = omega arith in
    let second : n / 2 ^ 16 % 256 ≡ b = omega arith in
    let third : n / 2 ^ 8 % 256 ≡ c = omega arith in
    let fourth : n % 256 ≡ d = omega arith in
    λ i. without_zeros (first i ∷ second i ∷ third i ∷ fourth i ∷ [])

without-zeros : (t : List ℕ) → every is_capital t ≡ true → without_zeros t ≡ t
unfolding without_zeros
without-zeros [] e = refl
without-zeros (b ∷ bs) e =
    let r = between_bounds 65 90 b (every_split is_capital b bs e).0 in
    rw (ne_eqb b 0 (omega arith))

-- so up to four capitals are found again in theirs, as which zeros in front of them count nothing.
capital_byte : (b : ℕ) → is_capital b ≡ true → is_byte b ≡ true
capital_byte b e = let r = between_bounds 65 90 b e in le-leb b 255 (omega arith)

pub letters_back : (t : List ℕ) → every is_capital t ≡ true → length t ≤ 4 → word_letters (word t) ≡ t
unfolding word_from without_zeros every
letters_back t e short = by_length t (every_weaker is_capital is_byte capital_byte t e) short ∙ without-zeros t e
  where
    by_length : (t : List ℕ) → every is_byte t ≡ true → length t ≤ 4 → word_letters (word t) ≡ without_zeros t
    by_length [] bytes short = four_bytes 0 0 0 0 bytes
    by_length (a ∷ []) bytes short = four_bytes 0 0 0 a bytes
    by_length (a ∷ b ∷ []) bytes short = four_bytes 0 0 a b bytes
    by_length (a ∷ b ∷ c ∷ []) bytes short = four_bytes 0 a b c bytes
    by_length (a ∷ b ∷ c ∷ d ∷ []) bytes short = four_bytes a b c d bytes
    by_length (a ∷ b ∷ c ∷ d ∷ x ∷ t) bytes short = absurd (omega arith)

-- The words of four letters each from the k-th on, and the letters that they hold;
abbrev words : ℕ → ℕ → List ℕ → List ℕ
words zero k t = []
words (suc n) k t = word_at t k ∷ words n (suc k) t

words_back : (n k : ℕ) (t : List ℕ) → every is_capital t ≡ true → flat_map word_letters (words n k t) ≡ take (4 * n) (drop (4 * k) t)
unfolding flat_map
words_back zero k t e = refl
words_back (suc n) k t e =
    let rest = drop (4 * k) t in
    let behind : 4 * suc k ≡ 4 * k + 4 = omega arith in
    let more : 4 + 4 * n ≡ 4 * suc n = omega arith in
    let four : length (take 4 rest) ≤ 4 = omega (arith, length-take 4 rest) in
    ap₂ ◌++◌ (letters_back (take 4 rest) (every_take is_capital 4 rest (every_drop is_capital (4 * k) t e)) four)
    (words_back n (suc k) t e ∙ ap (λ (j : ℕ). take (4 * n) (drop j t)) behind ∙ ap (take (4 * n)) (sym (drop-drop 4 (4 * k) t)))
    ∙ sym (take-add 4 (4 * n) rest)
    ∙ ap (λ (j : ℕ). take j rest) more

-- so up to 40 capitals are found again in their ten numbers.
pub all_letters_back : (t : List ℕ) → every is_capital t ≡ true → length t ≤ 40 → letters_of (as_letters t) ≡ t
unfolding letters_of as_letters
all_letters_back t e short = words_back 10 0 t e ∙ take_all 40 t short
