-- The sentences of the Alpha 9500: frame, payload and checksum, and the records of 02, 03 and 05.
use Rattle.std.specs.Prelude.{ℕ, ◌+◌, ◌-◌, ◌*◌, ◌/◌, ◌%◌, ◌^◌, Bool, true, false, ◌&&◌, cond, List, [], ◌∷◌, ◌++◌, eqb, leb, ltb, ℤ, pos, negsuc, neg_ℤ, nat_abs, length, take, drop, get_or}
use Prim.Native.Char.{code}
use Rattle.rules.specs.Bytes.{ascii, one_of, between, every, same, first, part, text_byte}
use Rattle.rules.specs.Numbers.{is_digit, decimal, is_hex_digit, hex_number, with_zeros, hex_digits}
use Rattle.rules.specs.declared.Sentence02.{Sentence02}
use Rattle.rules.specs.declared.Sentence03.{Sentence03}
use Rattle.rules.specs.declared.Sentence05.{Sentence05}

-- The checksum. Both sums start at zero; for each byte sum1 grows by the byte and sum2 by the new sum1, modulo 256.
unfoldable pub sum1_from : ℕ → List ℕ → ℕ
sum1_from s1 [] = s1
sum1_from s1 (b ∷ bs) = sum1_from ((s1 + b) % 256) bs

unfoldable pub sum2_from : ℕ → ℕ → List ℕ → ℕ
sum2_from s1 s2 [] = s2
sum2_from s1 s2 (b ∷ bs) = sum2_from ((s1 + b) % 256) ((s2 + (s1 + b) % 256) % 256) bs

abbrev pub sum1 : List ℕ → ℕ
sum1 bs = sum1_from 0 bs

abbrev pub sum2 : List ℕ → ℕ
sum2 bs = sum2_from 0 0 bs

-- A payload has 5 to 128 bytes, and with `$`, `*` and four digits a sentence has 11 to 134.
abbrev pub shortest_payload : ℕ
shortest_payload = 5

abbrev pub longest_payload : ℕ
longest_payload = 128

abbrev pub shortest_sentence : ℕ
shortest_sentence = shortest_payload + 6

abbrev pub longest_sentence : ℕ
longest_sentence = longest_payload + 6

-- A payload is 5 to 128 bytes from 20 to 7E, neither `$` nor `*`: `APA`, two digits, and then nothing or a comma and
-- any further bytes.
unfoldable pub is_payload_byte : ℕ → Bool
is_payload_byte b = text_byte (code "$") (code "*") b

abbrev pub nothing_or_comma : List ℕ → Bool
nothing_or_comma [] = true
nothing_or_comma (b ∷ bs) = eqb b (code ",")

abbrev pub is_named : List ℕ → Bool
is_named p = same (take 3 p) (ascii "APA") && every is_digit (part 3 2 p) && nothing_or_comma (drop 5 p)

unfoldable pub is_payload : List ℕ → Bool
is_payload p = between shortest_payload longest_payload (length p) && every is_payload_byte p && is_named p

-- A frame is `$`, the payload, `*` and four uppercase hexadecimal digits that give sum2, then sum1.
abbrev pub payload_of : List ℕ → List ℕ
payload_of bs = part 1 (length bs - 6) bs

abbrev pub check_of : List ℕ → List ℕ
check_of bs = drop (length bs - 4) bs

unfoldable pub gives_sums : List ℕ → List ℕ → Bool
gives_sums check p =
    every is_hex_digit check
    && eqb (hex_number (get_or check 0 0) (get_or check 1 0)) (sum2 p)
    && eqb (hex_number (get_or check 2 0) (get_or check 3 0)) (sum1 p)

unfoldable pub is_sentence : List ℕ → Bool
is_sentence bs =
    same bs (code "$" ∷ payload_of bs ++ code "*" ∷ check_of bs)
    && is_payload (payload_of bs)
    && gives_sums (check_of bs) (payload_of bs)

-- the sentence's number, and the texts of its fields, each behind a comma
abbrev pub number_of : List ℕ → ℕ
number_of p = decimal (part 3 2 p)

abbrev pub onto : ℕ → List (List ℕ) → List (List ℕ)
onto b [] = (b ∷ []) ∷ []
onto b (t ∷ ts) = (b ∷ t) ∷ ts

unfoldable pub between_commas : List ℕ → List (List ℕ)
between_commas [] = [] ∷ []
between_commas (b ∷ bs) = cond (eqb b (code ",")) ([] ∷ between_commas bs) (onto b (between_commas bs))

abbrev pub behind_commas : List ℕ → List (List ℕ)
behind_commas [] = []
behind_commas (b ∷ bs) = between_commas bs

abbrev pub texts_of : List ℕ → List (List ℕ)
texts_of p = behind_commas (drop 5 p)

-- A decimal field of width w has 1 to w digits.
abbrev pub is_decimal : ℕ → List ℕ → Bool
is_decimal w t = between 1 w (length t) && every is_digit t

-- the texts are decimal fields of these widths, as many as there are widths
unfoldable pub are_decimals : List ℕ → List (List ℕ) → Bool
are_decimals [] [] = true
are_decimals [] (t ∷ ts) = false
are_decimals (w ∷ ws) [] = false
are_decimals (w ∷ ws) (t ∷ ts) = is_decimal w t && are_decimals ws ts

-- the numbers fit decimal fields of these widths
unfoldable pub fit : List ℕ → List ℕ → Bool
fit [] ns = true
fit (w ∷ ws) [] = true
fit (w ∷ ws) (n ∷ ns) = ltb n (10 ^ w) && fit ws ns

-- the number in the text of field k, k from 0
abbrev pub at : List (List ℕ) → ℕ → ℕ
at ts k = decimal (get_or ts k [])

-- Sentence 02: thirteen decimal fields. Grid voltage is at most 255, band 1 to 9, key 0 or 1.
abbrev pub widths02 : List ℕ
widths02 = 5 ∷ 3 ∷ 4 ∷ 4 ∷ 4 ∷ 3 ∷ 3 ∷ 3 ∷ 1 ∷ 1 ∷ 2 ∷ 1 ∷ 5 ∷ []

unfoldable pub sentence02 : List (List ℕ) → Sentence02
sentence02 ts = record {
  pfwd = at ts 0;
  swr = at ts 1;
  pin = at ts 2;
  vp = at ts 3;
  ip = at ts 4;
  gain = at ts 5;
  vg = at ts 6;
  ig = at ts 7;
  band = at ts 8;
  state = at ts 9;
  fault = at ts 10;
  key = at ts 11;
  pep = at ts 12;
}

unfoldable pub numbers02 : Sentence02 → List ℕ
numbers02 r =
    r.pfwd ∷ r.swr ∷ r.pin ∷ r.vp ∷ r.ip ∷ r.gain ∷ r.vg ∷ r.ig ∷ r.band ∷ r.state ∷ r.fault ∷ r.key ∷ r.pep ∷ []

unfoldable pub in_range02 : Sentence02 → Bool
in_range02 r = fit widths02 (numbers02 r) && leb r.vg 255 && between 1 9 r.band && leb r.key 1

unfoldable pub is02 : List (List ℕ) → Bool
is02 ts = are_decimals widths02 ts && in_range02 (sentence02 ts)

-- A temperature: plus or minus, 1 to 3 digits, a point, one digit. It counts tenths; `-000.0` is zero.
abbrev pub whole : List ℕ → List ℕ
whole t = part 1 (length t - 3) t

abbrev pub tenth : List ℕ → List ℕ
tenth t = drop (length t - 1) t

unfoldable pub is_temperature : List ℕ → Bool
is_temperature t =
    one_of (ascii "+-") (first t) && is_decimal 3 (whole t)
    && eqb (get_or t (length t - 2) 0) (code ".") && every is_digit (tenth t)

unfoldable pub temperature : List ℕ → ℤ
temperature t = cond (eqb (first t) (code "-")) (neg_ℤ (pos (decimal (whole t ++ tenth t)))) (pos (decimal (whole t ++ tenth t)))

-- Sentence 03: eight decimal fields, then a temperature. Mains tap is 1 to 5.
abbrev pub widths03 : List ℕ
widths03 = 3 ∷ 3 ∷ 3 ∷ 3 ∷ 3 ∷ 4 ∷ 3 ∷ 1 ∷ []

unfoldable pub sentence03 : List (List ℕ) → Sentence03
sentence03 ts = record {
  v5 = at ts 0;
  v12 = at ts 1;
  v24 = at ts 2;
  m12 = at ts 3;
  v40 = at ts 4;
  acline = at ts 5;
  mbstatus = at ts 6;
  mbtap = at ts 7;
  temp = temperature (get_or ts 8 []);
}

unfoldable pub numbers03 : Sentence03 → List ℕ
numbers03 r = r.v5 ∷ r.v12 ∷ r.v24 ∷ r.m12 ∷ r.v40 ∷ r.acline ∷ r.mbstatus ∷ r.mbtap ∷ []

unfoldable pub in_range03 : Sentence03 → Bool
in_range03 r = fit widths03 (numbers03 r) && between 1 5 r.mbtap && leb (nat_abs r.temp) 9999

unfoldable pub is03 : List (List ℕ) → Bool
is03 ts = are_decimals widths03 (take 8 ts) && eqb (length ts) 9 && is_temperature (get_or ts 8 []) && in_range03 (sentence03 ts)

-- Sentence 05: seven fields of two hexadecimal digits. In the first four, the upper nibble and the lower nibble are
-- separate numbers.
abbrev pub is_hex_field : List ℕ → Bool
is_hex_field t = eqb (length t) 2 && every is_hex_digit t

abbrev pub hex_at : List (List ℕ) → ℕ → ℕ
hex_at ts k = hex_number (get_or (get_or ts k []) 0 0) (get_or (get_or ts k []) 1 0)

abbrev pub upper_at : List (List ℕ) → ℕ → ℕ
upper_at ts k = hex_at ts k / 16

abbrev pub lower_at : List (List ℕ) → ℕ → ℕ
lower_at ts k = hex_at ts k % 16

unfoldable pub sentence05 : List (List ℕ) → Sentence05
sentence05 ts = record {
  band = upper_at ts 0;
  segment = lower_at ts 0;
  memory = upper_at ts 1;
  antenna = lower_at ts 1;
  meter = upper_at ts 2;
  control = lower_at ts 2;
  options = upper_at ts 3;
  state = lower_at ts 3;
  wtime = hex_at ts 4;
  tcmd = hex_at ts 5;
  lcmd = hex_at ts 6;
}

unfoldable pub in_range05 : Sentence05 → Bool
in_range05 r =
    leb r.band 15 && leb r.segment 15 && leb r.memory 15 && leb r.antenna 15
    && leb r.meter 15 && leb r.control 15 && leb r.options 15 && leb r.state 15
    && leb r.wtime 255 && leb r.tcmd 255 && leb r.lcmd 255

unfoldable pub is05 : List (List ℕ) → Bool
is05 ts = eqb (length ts) 7 && every is_hex_field ts

-- The writer uses all w digits of a decimal field, three digits before a temperature's point, and a plus for zero.
unfoldable pub commas : List (List ℕ) → List ℕ
commas [] = []
commas (t ∷ ts) = code "," ∷ t ++ commas ts

unfoldable pub decimals : List ℕ → List ℕ → List (List ℕ)
decimals [] ns = []
decimals (w ∷ ws) [] = []
decimals (w ∷ ws) (n ∷ ns) = with_zeros w n ∷ decimals ws ns

abbrev pub sign : ℤ → ℕ
sign (pos n) = code "+"
sign (negsuc n) = code "-"

unfoldable pub temperature_text : ℤ → List ℕ
temperature_text z = sign z ∷ with_zeros 3 (nat_abs z / 10) ++ code "." ∷ with_zeros 1 (nat_abs z % 10)

unfoldable pub sentence_frame : List ℕ → List ℕ
sentence_frame p = code "$" ∷ p ++ code "*" ∷ hex_digits (sum2 p) ++ hex_digits (sum1 p)

abbrev pub texts02 : Sentence02 → List (List ℕ)
texts02 r = decimals widths02 (numbers02 r)

abbrev pub texts03 : Sentence03 → List (List ℕ)
texts03 r = decimals widths03 (numbers03 r) ++ temperature_text r.temp ∷ []

unfoldable pub texts05 : Sentence05 → List (List ℕ)
texts05 r =
    hex_digits (r.band * 16 + r.segment)
    ∷ hex_digits (r.memory * 16 + r.antenna)
    ∷ hex_digits (r.meter * 16 + r.control)
    ∷ hex_digits (r.options * 16 + r.state)
    ∷ hex_digits r.wtime
    ∷ hex_digits r.tcmd
    ∷ hex_digits r.lcmd
    ∷ []

abbrev pub bytes02 : Sentence02 → List ℕ
bytes02 r = sentence_frame (ascii "APA02" ++ commas (texts02 r))

abbrev pub bytes03 : Sentence03 → List ℕ
bytes03 r = sentence_frame (ascii "APA03" ++ commas (texts03 r))

abbrev pub bytes05 : Sentence05 → List ℕ
bytes05 r = sentence_frame (ascii "APA05" ++ commas (texts05 r))

-- The Alpha is enabled by three plus signs.
abbrev pub enable_bytes : List ℕ
enable_bytes = ascii "+++"
