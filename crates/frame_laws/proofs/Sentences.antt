-- Laws of the Alpha's sentences: texts behind commas, the checksum, the frame and the payload, each put together and
-- taken apart again.
-- Texts without a comma go by induction; a frame and a payload are cut at places that their lengths fix, and two
-- hexadecimal digits are determined by their number. Assumes nothing.
use Prim.Native.Nat.{ℕ, ◌+◌, ◌-◌, ◌≤◌, ◌<◌, ◌%◌}
use Prim.Native.Char.{code}
use mathlib.Core.Path.{◌≡◌, refl, sym, ◌∙◌, ap, ap₂, subst, subst⁻¹}
use mathlib.Core.Bool.{Bool, true, false, ◌&&◌, cond, not, and-eq-true_iff}
use mathlib.Core.List.{List, [], ◌∷◌, ◌++◌, append_assoc}
use mathlib.Core.Logic.{◌≢◌, ⊎_elim}
use native.Mathlib.Omega.{arith}
use lib.Dec.{eqb}
use lib.ListN.{length, take, drop, get_or, length-append, length-take, length-drop, take-append-drop}
use lib.Seq.{take_at, drop_at, drop-drop}
use borrow.Author.Tests.{eqb-true, eq-eqb, le-leb, ne_eqb, not-true}
use Rattle.rules.specs.Bytes.{ascii, between, every, part}
use Rattle.rules.specs.Numbers.{is_digit, is_hex_digit, hex_number, hex_digits, with_zeros}
use Rattle.rules.specs.Sentences.{sum1_from, sum2_from, sum1, sum2, is_payload_byte, nothing_or_comma, is_payload, payload_of, check_of, gives_sums, is_sentence, number_of, onto, between_commas, behind_commas, texts_of, commas, sentence_frame}
use Rattle.frame_laws.proofs.Bytes.{both, tests, either, between_bounds, same_eq, eq_same, every_cons, every_split, every_append, every_weaker, one_by_one}
use Rattle.frame_laws.proofs.Numbers.{zeros_digits, zeros_read, zeros_write, hex-digits, hex_read, hex_write}

abbrev pub no_comma : ℕ → Bool
no_comma b = not (eqb b (code ","))

-- A text without a comma, in front of nothing or of a comma, is the first that is found.
first_text : (t bs : List ℕ) → every no_comma t ≡ true → nothing_or_comma bs ≡ true → between_commas (t ++ bs) ≡ t ∷ behind_commas bs
unfolding between_commas every
first_text [] [] free comma = refl
first_text [] (b ∷ bs) free comma = rw comma
first_text (b ∷ t) bs free comma =
    let h = both (no_comma b) (every no_comma t) free in
    rw (not-true (eqb b (code ",")) h.0, first_text t bs h.1 comma)

commas_start : (ts : List (List ℕ)) → nothing_or_comma (commas ts) ≡ true
unfolding commas
commas_start [] = refl
commas_start (t ∷ ts) = refl

-- Texts without a comma, written behind commas, come back;
pub behind-commas : (ts : List (List ℕ)) → every (every no_comma) ts ≡ true → behind_commas (commas ts) ≡ ts
unfolding commas every
behind-commas [] free = refl
behind-commas (t ∷ ts) free =
    let h = both (every no_comma t) (every (every no_comma) ts) free in
    first_text t (commas ts) h.0 (commas_start ts) ∙ ap (λ us. t ∷ us) (behind-commas ts h.1)

-- and the texts that are found, written behind commas, are the bytes again.
commas_onto : (b : ℕ) (ts : List (List ℕ)) (bs : List ℕ) → commas ts ≡ code "," ∷ bs → commas (onto b ts) ≡ code "," ∷ b ∷ bs
unfolding commas
commas_onto b [] bs e = cc
commas_onto b (t ∷ ts) bs e = cc

commas_between : (bs : List ℕ) → commas (between_commas bs) ≡ code "," ∷ bs
unfolding commas between_commas
commas_between [] = refl
commas_between (b ∷ bs) = by_test (eqb b (code ",")) refl (commas_between bs)
  where
    by_test : (comma : Bool) → eqb b (code ",") ≡ comma → commas (between_commas bs) ≡ code "," ∷ bs
        → commas (cond comma ([] ∷ between_commas bs) (onto b (between_commas bs))) ≡ code "," ∷ b ∷ bs
    by_test true e rest = cc (eqb-true b (code ",") e)
    by_test false e rest = commas_onto b (between_commas bs) bs rest

pub commas_behind : (bs : List ℕ) → nothing_or_comma bs ≡ true → commas (behind_commas bs) ≡ bs
unfolding commas
commas_behind [] comma = refl
commas_behind (b ∷ bs) comma = cc (commas_between bs, eqb-true b (code ",") comma)

-- The sums are below 256.
sum1_from_fits : (s1 : ℕ) (bs : List ℕ) → s1 < 256 → sum1_from s1 bs < 256
unfolding sum1_from
sum1_from_fits s1 [] fits = fits
sum1_from_fits s1 (b ∷ bs) fits = sum1_from_fits ((s1 + b) % 256) bs (omega arith)

sum2_from_fits : (s1 s2 : ℕ) (bs : List ℕ) → s2 < 256 → sum2_from s1 s2 bs < 256
unfolding sum2_from
sum2_from_fits s1 s2 [] fits = fits
sum2_from_fits s1 s2 (b ∷ bs) fits = sum2_from_fits ((s1 + b) % 256) ((s2 + (s1 + b) % 256) % 256) bs (omega arith)

pub sum1_fits : (bs : List ℕ) → sum1 bs < 256
sum1_fits bs = sum1_from_fits 0 bs (omega arith)

pub sum2_fits : (bs : List ℕ) → sum2 bs < 256
sum2_fits bs = sum2_from_fits 0 0 bs (omega arith)

-- The frame: a dollar sign, a payload, a star and four bytes. The payload and the four bytes are found again.
abbrev framed : List ℕ → List ℕ → List ℕ
framed p check = code "$" ∷ p ++ code "*" ∷ check

abbrev checks : List ℕ → List ℕ
checks p = hex_digits (sum2 p) ++ hex_digits (sum1 p)

payload_framed : (p check : List ℕ) → length check ≡ 4 → payload_of (framed p check) ≡ p
payload_framed p check four =
    take_at p (code "*" ∷ check) (length (framed p check) - 6) (omega (arith, length-append p (code "*" ∷ check)))

check_framed : (p check : List ℕ) → length check ≡ 4 → check_of (framed p check) ≡ check
check_framed p check four =
    let n = length (framed p check) - 4 in
    ap (drop n) (sym (append_assoc (code "$" ∷ p) (code "*" ∷ []) check))
    ∙ drop_at (code "$" ∷ p ++ code "*" ∷ []) check n
    (omega (arith, length-append p (code "*" ∷ check), length-append p (code "*" ∷ [])))

frame_framed : (p : List ℕ) → sentence_frame p ≡ framed p (checks p)
unfolding sentence_frame
frame_framed p = append_assoc (code "$" ∷ p) (code "*" ∷ hex_digits (sum2 p)) (hex_digits (sum1 p))

pub payload_back : (p : List ℕ) → payload_of (sentence_frame p) ≡ p
payload_back p = ap payload_of (frame_framed p) ∙ payload_framed p (checks p) refl

pub check_back : (p : List ℕ) → check_of (sentence_frame p) ≡ hex_digits (sum2 p) ++ hex_digits (sum1 p)
check_back p = ap check_of (frame_framed p) ∙ check_framed p (checks p) refl

-- The digits of the two sums give them, so a payload that is framed is a sentence;
gives_checks : (p : List ℕ) → gives_sums (checks p) p ≡ true
unfolding gives_sums
gives_checks p =
    let digits2 = hex-digits (sum2 p) (sum2_fits p) in
    let digits1 = hex-digits (sum1 p) (sum1_fits p) in
    let all_digits = every_append is_hex_digit (hex_digits (sum2 p)) (hex_digits (sum1 p)) digits2 digits1 in
    simp and-eq-true_iff
    ((all_digits, eq-eqb _ _ (hex_read (sum2 p) (sum2_fits p))), eq-eqb _ _ (hex_read (sum1 p) (sum1_fits p)))

pub frame_sentence : (p : List ℕ) → is_payload p ≡ true → is_sentence (sentence_frame p) ≡ true
unfolding is_sentence
frame_sentence p good =
    let bs = sentence_frame p in
    let whole = frame_framed p ∙ sym (ap₂ framed (payload_back p) (check_back p)) in
    let given = ap₂ gives_sums (check_back p) (payload_back p) ∙ gives_checks p in
    simp and-eq-true_iff
    ((eq_same bs (framed (payload_of bs) (check_of bs)) whole, ap is_payload (payload_back p) ∙ good), given)

-- and they are the only digits that do, so a sentence is its framed payload.
only_digits : (a b n : ℕ) → is_hex_digit a ≡ true → is_hex_digit b ≡ true → eqb (hex_number a b) n ≡ true → hex_digits n ≡ a ∷ b ∷ []
only_digits a b n ha hb e = ap hex_digits (sym (eqb-true (hex_number a b) n e)) ∙ hex_write a b ha hb

checks_given : (check p : List ℕ) → length check ≡ 4 → gives_sums check p ≡ true → check ≡ checks p
unfolding gives_sums every
checks_given check p four good =
    let h = simp and-eq-true_iff at good in
    let bytes = one_by_one 0 4 check four in
    let d = simp and-eq-true_iff at (subst⁻¹ (λ l. every is_hex_digit l ≡ true) bytes h.0.0) in
    let upper = only_digits (get_or check 0 0) (get_or check 1 0) (sum2 p) d.0 d.1.0 h.0.1 in
    let lower = only_digits (get_or check 2 0) (get_or check 3 0) (sum1 p) d.1.1.0 d.1.1.1.0 h.1 in
    sym bytes ∙ sym (ap₂ (λ (u v : List ℕ). u ++ v) upper lower)

pub sentence_payload : (bs : List ℕ) → is_sentence bs ≡ true → is_payload (payload_of bs) ≡ true
unfolding is_sentence
sentence_payload bs good = search tests

pub sentence-frame : (bs : List ℕ) → is_sentence bs ≡ true → bs ≡ sentence_frame (payload_of bs)
unfolding is_sentence is_payload
sentence-frame bs good =
    let p = payload_of bs in
    let check = check_of bs in
    let long : between 5 128 (length p) ≡ true = search tests in
    let bounds = between_bounds 5 128 (length p) long in
    let four : length check ≡ 4 = omega (arith, length-drop (length bs - 4) bs, length-take (length bs - 6) (drop 1 bs), length-drop 1 bs) in
    same_eq bs (framed p check) (search tests) ∙ ap (framed p) (checks_given check p four (search tests)) ∙ sym (frame_framed p)

-- A byte of a text: a payload byte and no comma. So is each from the minus sign on.
abbrev pub is_text_byte : ℕ → Bool
is_text_byte b = is_payload_byte b && no_comma b

text-byte : (b : ℕ) → 45 ≤ b → b ≤ 126 → is_text_byte b ≡ true
unfolding is_payload_byte
text-byte b low high =
    let other : (c : ℕ) → b ≢ c → not (eqb b c) ≡ true = λ c ne. ap not (ne_eqb b c ne) in
    simp and-eq-true_iff
    ((((le-leb 32 b (omega arith), le-leb b 126 high), other 36 (omega arith)), other 42 (omega arith)), other 44 (omega arith))

digit_text : (b : ℕ) → is_digit b ≡ true → is_text_byte b ≡ true
digit_text b h = let e = between_bounds 48 57 b h in text-byte b (omega arith) (omega arith)

hex_text : (b : ℕ) → is_hex_digit b ≡ true → is_text_byte b ≡ true
unfolding is_hex_digit
hex_text b h =
    ⊎_elim (digit_text b)
    (λ u. let e = between_bounds 65 70 b u in text-byte b (omega arith) (omega arith))
    (either (is_digit b) (between (code "A") (code "F") b) h)

pub digits_text : (t : List ℕ) → every is_digit t ≡ true → every is_text_byte t ≡ true
digits_text = every_weaker is_digit is_text_byte digit_text

pub hex_digits_text : (t : List ℕ) → every is_hex_digit t ≡ true → every is_text_byte t ≡ true
hex_digits_text = every_weaker is_hex_digit is_text_byte hex_text

payload_bytes : (t : List ℕ) → every is_text_byte t ≡ true → every is_payload_byte t ≡ true
payload_bytes = every_weaker is_text_byte is_payload_byte (λ b h. (both (is_payload_byte b) (no_comma b) h).0)

comma_free : (t : List ℕ) → every is_text_byte t ≡ true → every no_comma t ≡ true
comma_free = every_weaker is_text_byte no_comma (λ b h. (both (is_payload_byte b) (no_comma b) h).1)

commas_payload : (ts : List (List ℕ)) → every (every is_text_byte) ts ≡ true → every is_payload_byte (commas ts) ≡ true
unfolding commas every is_payload_byte
commas_payload [] clean = refl
commas_payload (t ∷ ts) clean =
    let h = every_split (every is_text_byte) t ts clean in
    every_cons is_payload_byte (code ",") (t ++ commas ts) refl
    (every_append is_payload_byte t (commas ts) (payload_bytes t h.0) (commas_payload ts h.1))

-- The payload: `APA`, a number's two digits, and texts behind commas. Number and texts are found again,
abbrev pub payload : ℕ → List (List ℕ) → List ℕ
payload n ts = ascii "APA" ++ with_zeros 2 n ++ commas ts

letters : every is_payload_byte (ascii "APA") ≡ true
unfolding every is_payload_byte
letters = refl

module _ (n : ℕ) (ts : List (List ℕ)) (small : n < 100) (clean : every (every is_text_byte) ts ≡ true) where
  pub payload_good : length (commas ts) ≤ 123 → is_payload (payload n ts) ≡ true
  unfolding is_payload with_zeros
  payload_good short =
      let p = payload n ts in
      let two = with_zeros 2 n in
      let digits = zeros_digits 2 n small in
      let front = every_append is_payload_byte (ascii "APA") two letters (payload_bytes two (digits_text two digits)) in
      let bytes = every_append is_payload_byte (ascii "APA" ++ two) (commas ts) front (commas_payload ts clean) in
      let long = le-leb 5 (length p) (omega arith) in
      let not_long = le-leb (length p) 128 (omega arith) in
      simp and-eq-true_iff (((long, not_long), bytes), ((eq_same (ascii "APA") (ascii "APA") refl, digits), commas_start ts))

  pub payload_texts : texts_of (payload n ts) ≡ ts
  unfolding with_zeros
  payload_texts = behind-commas ts (every_weaker (every is_text_byte) (every no_comma) comma_free ts clean)

  pub payload_number : number_of (payload n ts) ≡ n
  unfolding with_zeros
  payload_number = zeros_read 2 n small

-- and every payload is of that form.
pub payload_parts : (p : List ℕ) → is_payload p ≡ true → p ≡ payload (number_of p) (texts_of p)
unfolding is_payload
payload_parts p good =
    let long : between 5 128 (length p) ≡ true = search tests in
    let bounds = between_bounds 5 128 (length p) long in
    let two : length (part 3 2 p) ≡ 2 = omega (arith, length-take 2 (drop 3 p), length-drop 3 p) in
    let written : with_zeros (length (part 3 2 p)) (number_of p) ≡ part 3 2 p = zeros_write (part 3 2 p) (search tests) in
    let digits = subst (λ w. with_zeros w (number_of p) ≡ part 3 2 p) two written in
    let rest : commas (texts_of p) ≡ drop 5 p = commas_behind (drop 5 p) (search tests) in
    sym (take-append-drop 3 p)
    ∙ ap₂ ◌++◌ (same_eq (take 3 p) (ascii "APA") (search tests))
    (sym (take-append-drop 2 (drop 3 p)) ∙ ap₂ ◌++◌ (sym digits) (drop-drop 2 3 p ∙ sym rest))
