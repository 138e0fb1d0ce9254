-- The rules of a report's 67 data bytes are the tests of `is_status`: bounds of each byte, letters, spaces, and the limits
-- of the ID. Both are put in the order of the fields, and then the laws of their texts are cited one by one.
-- Assumes nothing.
use Prim.Native.Nat.{ℕ, ◌-◌, ◌/◌, ◌%◌}
use Prim.Native.Char.{code}
use mathlib.Core.Path.{◌≡◌, refl, sym, ap, subst, ◌∙◌}
use mathlib.Core.Bool.{Bool, true, false, ◌&&◌, cond, and-true, and_assoc}
use mathlib.Core.List.{List, [], ◌∷◌}
use native.Mathlib.Omega.{arith}
use lib.Dec.{eqb, leb}
use lib.ListN.{length, take, get_or}
use Rattle.rules.specs.Bytes.{ascii, one_of, between, every, same, first, total}
use Rattle.rules.specs.Numbers.{is_digit, decimal, padded, padded_number, pointed, pointed_number}
use Rattle.rules.specs.Status.{joined, cut, widths, field, readable, fields_in_range, status_of, warnings, alarms}
use Rattle.frame_laws.proofs.Bytes.{one_by_one, places, every_weaker, one_of_these, alike}
use Rattle.frame_laws.proofs.Fields.{commas_at, commas-at}
use Rattle.texts.specs.Parts.{in_bounds}
use Rattle.spe.specs.ReportTests.{band_to, none_above_zero, limits20_k, limits13_k, all_follow, letters_good, limits_good}
use Rattle.spe.proofs.ReportTexts.{spaces_first, input_text, band_text, id_text, first_tells, letter_text, bank_text, transmit_text, receive_text, number_text, point_text, warmth_text}
use Rattle.spe.proofs.ReportBounds.{texts_within, within_joined}

-- the least and the most of each field's bytes
abbrev pub leasts : List (List ℕ)
leasts =
    ascii "10K" ∷ ascii "O" ∷ ascii "R" ∷ ascii "A" ∷ ascii "1" ∷ ascii "00" ∷ ascii "0a" ∷ ascii "0r" ∷ ascii "H"
    ∷ ascii "   0" ∷ ascii " 0.00" ∷ ascii " 0.00" ∷ ascii " 0.0" ∷ ascii " 0.0" ∷ ascii "  0" ∷ ascii "  0" ∷ ascii "  0"
    ∷ ascii "A" ∷ ascii "A" ∷ []

abbrev pub mosts : List (List ℕ)
mosts =
    ascii "23K" ∷ ascii "S" ∷ ascii "T" ∷ ascii "x" ∷ ascii "2" ∷ ascii "19" ∷ ascii "6t" ∷ ascii "6r" ∷ ascii "M"
    ∷ ascii "9999" ∷ ascii "99.99" ∷ ascii "99.99" ∷ ascii "99.9" ∷ ascii "99.9" ∷ ascii "999" ∷ ascii "999" ∷ ascii "999"
    ∷ ascii "Y" ∷ ascii "S" ∷ []

-- the places in padded numbers that have another byte of the number behind them
abbrev pub marks : List ℕ
marks = ascii "........................>>>..>.....>.....>....>....>>..>>..>>......"

-- Tests with numbers pass in any order: each number of one row stands in the other.
in_any_order : (t : ℕ → Bool) (is js : List ℕ) → every (one_of js) is ≡ true → every (one_of is) js ≡ true → every t is ≡ every t js
in_any_order t is js p q =
    alike _ _
    (λ h. every_weaker (one_of is) t (λ j e. one_of_these t is j h e) js q)
    (λ h. every_weaker (one_of js) t (λ i e. one_of_these t js i h e) is p)

-- The rules of the fields, and below the tests of their bytes: number 62 is the second of field 6. They are joined as they
-- stand in the rules and in the code, and joined field by field.
module _ (t : ℕ → Bool) where
  abbrev rules_in_order : Bool
  rules_in_order =
      t 11 && t 12 && t 51 && t 61 && t 71 && t 81 && t 82
      && (t 101 && t 111 && t 121 && t 131 && t 141 && t 151 && t 161 && t 171)
      && (t 13 && t 21 && t 31 && t 41 && t 52 && t 62 && t 72 && t 73 && t 83 && t 91 && t 102 && t 112 && t 122 && t 132 && t 142
      && t 152 && t 162 && t 172 && t 181 && t 191)

  abbrev behind_id : Bool
  behind_id =
      t 21 && t 31 && t 41 && (t 51 && t 52) && (t 61 && t 62) && (t 71 && t 72 && t 73) && (t 81 && t 82 && t 83) && t 91
      && (t 101 && t 102) && (t 111 && t 112) && (t 121 && t 122) && (t 131 && t 132) && (t 141 && t 142)
      && (t 151 && t 152) && (t 161 && t 162) && (t 171 && t 172) && t 181 && t 191

  abbrev rules_by_field : Bool
  rules_by_field = t 11 && t 12 && t 13 && behind_id

  abbrev rule_order : List ℕ
  rule_order =
      11 ∷ 12 ∷ 51 ∷ 61 ∷ 71 ∷ 81 ∷ 82 ∷ 101 ∷ 111 ∷ 121 ∷ 131 ∷ 141 ∷ 151 ∷ 161 ∷ 171
      ∷ 13 ∷ 21 ∷ 31 ∷ 41 ∷ 52 ∷ 62 ∷ 72 ∷ 73 ∷ 83 ∷ 91 ∷ 102 ∷ 112 ∷ 122 ∷ 132 ∷ 142 ∷ 152 ∷ 162 ∷ 172 ∷ 181 ∷ 191 ∷ []

  abbrev field_order : List ℕ
  field_order =
      11 ∷ 12 ∷ 13 ∷ 21 ∷ 31 ∷ 41 ∷ 51 ∷ 52 ∷ 61 ∷ 62 ∷ 71 ∷ 72 ∷ 73 ∷ 81 ∷ 82 ∷ 83 ∷ 91
      ∷ 101 ∷ 102 ∷ 111 ∷ 112 ∷ 121 ∷ 122 ∷ 131 ∷ 132 ∷ 141 ∷ 142 ∷ 151 ∷ 152 ∷ 161 ∷ 162 ∷ 171 ∷ 172 ∷ 181 ∷ 191 ∷ []

  rules-by-field : rules_in_order ≡ rules_by_field
  unfolding every one_of
  rules-by-field =
      simp and_assoc (simp and-true at (in_any_order t rule_order field_order refl refl))

  abbrev tests_in_order : Bool
  tests_in_order =
      t 11 && (t 21 && (t 31 && (t 41 && (t 51 && (t 61 && (t 71 && (t 81 && (t 91 && (t 101 && (t 111 && (t 121 && (t 131 && (t 141
      && (t 151 && (t 161 && (t 171 && (t 181 && (t 191 && true))))))))))))))))))
      && (t 22 && t 32 && t 72 && t 92 && t 182 && t 192)
      && (t 102 && t 112 && t 122 && t 132 && t 142 && t 152 && t 162 && t 172)
      && (t 12 && t 42 && t 62 && t 73 && t 82 && t 163 && t 173)

  abbrev tests_by_field : Bool
  tests_by_field =
      t 11 && t 12
      && ((t 21 && t 22) && (t 31 && t 32) && (t 41 && t 42) && t 51 && (t 61 && t 62) && (t 71 && t 72 && t 73) && (t 81 && t 82)
      && (t 91 && t 92) && (t 101 && t 102) && (t 111 && t 112) && (t 121 && t 122) && (t 131 && t 132) && (t 141 && t 142)
      && (t 151 && t 152) && (t 161 && t 162 && t 163) && (t 171 && t 172 && t 173) && (t 181 && t 182) && (t 191 && t 192))

  abbrev test_order : List ℕ
  test_order =
      11 ∷ 21 ∷ 31 ∷ 41 ∷ 51 ∷ 61 ∷ 71 ∷ 81 ∷ 91 ∷ 101 ∷ 111 ∷ 121 ∷ 131 ∷ 141 ∷ 151 ∷ 161 ∷ 171 ∷ 181 ∷ 191
      ∷ 22 ∷ 32 ∷ 72 ∷ 92 ∷ 182 ∷ 192 ∷ 102 ∷ 112 ∷ 122 ∷ 132 ∷ 142 ∷ 152 ∷ 162 ∷ 172
      ∷ 12 ∷ 42 ∷ 62 ∷ 73 ∷ 82 ∷ 163 ∷ 173 ∷ []

  abbrev test_field_order : List ℕ
  test_field_order =
      11 ∷ 12 ∷ 21 ∷ 22 ∷ 31 ∷ 32 ∷ 41 ∷ 42 ∷ 51 ∷ 61 ∷ 62 ∷ 71 ∷ 72 ∷ 73 ∷ 81 ∷ 82 ∷ 91 ∷ 92
      ∷ 101 ∷ 102 ∷ 111 ∷ 112 ∷ 121 ∷ 122 ∷ 131 ∷ 132 ∷ 141 ∷ 142 ∷ 151 ∷ 152 ∷ 161 ∷ 162 ∷ 163 ∷ 171 ∷ 172 ∷ 173
      ∷ 181 ∷ 182 ∷ 191 ∷ 192 ∷ []

  tests-by-field : tests_in_order ≡ tests_by_field
  unfolding every one_of
  tests-by-field =
      simp (and_assoc, and-true) (simp and-true at (in_any_order t test_order test_field_order refl refl))

-- the test of such a number, where the tests stand in a row for each field
abbrev numbered : List (List Bool) → ℕ → Bool
numbered rows n = get_or (get_or rows (n / 10 - 1) []) (n % 10 - 1) true

only_if : (a : Bool) (f : Bool → Bool) (p q : Bool) → (a ≡ true → p ≡ q) → (a && f p) ≡ (a && f q)
only_if true f p q e = ap f (e refl)
only_if false f p q e = refl

-- data of 67 bytes, one by one
module _ (bytes : List ℕ) where
  abbrev d : List ℕ
  d = places 0 67 0 bytes

  abbrev rules : Bool → List (List Bool)
  rules big =
      (every is_digit (take 2 (field 1 d)) ∷ eqb (get_or (field 1 d) 2 0) (code "K") ∷ one_of (20 ∷ 13 ∷ []) (decimal (take 2 (field 1 d))) ∷ [])
      ∷ (one_of (ascii "SO") (first (field 2 d)) ∷ [])
      ∷ (one_of (ascii "RT") (first (field 3 d)) ∷ [])
      ∷ (one_of (cond big (ascii "x") (ascii "AB")) (first (field 4 d)) ∷ [])
      ∷ (is_digit (first (field 5 d)) ∷ between 1 2 (first (field 5 d) - code "0") ∷ [])
      ∷ (every is_digit (field 6 d) ∷ leb (decimal (field 6 d)) (cond big 10 11) ∷ [])
      ∷ (is_digit (first (field 7 d)) ∷ leb (first (field 7 d) - code "0") (cond big 6 4) ∷ one_of (ascii "tba") (get_or (field 7 d) 1 0) ∷ [])
      ∷ (is_digit (first (field 8 d)) ∷ eqb (get_or (field 8 d) 1 0) (code "r") ∷ leb (first (field 8 d) - code "0") (cond big 6 4) ∷ [])
      ∷ (one_of (ascii "LMH") (first (field 9 d)) ∷ [])
      ∷ (padded (field 10 d) ∷ leb (padded_number (field 10 d)) 9999 ∷ [])
      ∷ (pointed 2 (field 11 d) ∷ leb (pointed_number 2 (field 11 d)) 9999 ∷ [])
      ∷ (pointed 2 (field 12 d) ∷ leb (pointed_number 2 (field 12 d)) 9999 ∷ [])
      ∷ (pointed 2 (field 13 d) ∷ leb (pointed_number 2 (field 13 d)) 999 ∷ [])
      ∷ (pointed 2 (field 14 d) ∷ leb (pointed_number 2 (field 14 d)) 999 ∷ [])
      ∷ (padded (field 15 d) ∷ leb (padded_number (field 15 d)) 999 ∷ [])
      ∷ (padded (field 16 d) ∷ leb (padded_number (field 16 d)) (cond big 999 0) ∷ [])
      ∷ (padded (field 17 d) ∷ leb (padded_number (field 17 d)) (cond big 999 0) ∷ [])
      ∷ (one_of warnings (first (field 18 d)) ∷ [])
      ∷ (one_of alarms (first (field 19 d)) ∷ [])
      ∷ []

  abbrev bytes_of : ℕ → Bool
  bytes_of k = in_bounds (get_or leasts (k - 1) []) (get_or mosts (k - 1) []) (field k d)

  abbrev tests : Bool → List (List Bool)
  tests big =
      (bytes_of 1 ∷ cond big (eqb (get_or (field 1 d) 1 0) (code "0")) (eqb (get_or (field 1 d) 1 0) (code "3")) ∷ [])
      ∷ (bytes_of 2 ∷ one_of (ascii "SO") (first (field 2 d)) ∷ [])
      ∷ (bytes_of 3 ∷ one_of (ascii "RT") (first (field 3 d)) ∷ [])
      ∷ (bytes_of 4 ∷ cond big (one_of (ascii "x") (first (field 4 d))) (one_of (ascii "AB") (first (field 4 d))) ∷ [])
      ∷ (bytes_of 5 ∷ [])
      ∷ (bytes_of 6 ∷ cond big (band_to (code "0") d) (band_to (code "1") d) ∷ [])
      ∷ (bytes_of 7 ∷ one_of (ascii "tba") (get_or (field 7 d) 1 0) ∷ cond big true (leb (first (field 7 d)) (code "4")) ∷ [])
      ∷ (bytes_of 8 ∷ cond big true (leb (first (field 8 d)) (code "4")) ∷ [])
      ∷ (bytes_of 9 ∷ one_of (ascii "LMH") (first (field 9 d)) ∷ [])
      ∷ (bytes_of 10 ∷ spaces_first (field 10 d) ∷ [])
      ∷ (bytes_of 11 ∷ spaces_first (take 2 (field 11 d)) ∷ [])
      ∷ (bytes_of 12 ∷ spaces_first (take 2 (field 12 d)) ∷ [])
      ∷ (bytes_of 13 ∷ spaces_first (take 2 (field 13 d)) ∷ [])
      ∷ (bytes_of 14 ∷ spaces_first (take 2 (field 14 d)) ∷ [])
      ∷ (bytes_of 15 ∷ spaces_first (field 15 d) ∷ [])
      ∷ (bytes_of 16 ∷ spaces_first (field 16 d) ∷ cond big true (none_above_zero (field 16 d)) ∷ [])
      ∷ (bytes_of 17 ∷ spaces_first (field 17 d) ∷ cond big true (none_above_zero (field 17 d)) ∷ [])
      ∷ (bytes_of 18 ∷ one_of warnings (first (field 18 d)) ∷ [])
      ∷ (bytes_of 19 ∷ one_of alarms (first (field 19 d)) ∷ [])
      ∷ []

  rules_are : (readable d && fields_in_range (status_of 0 d)) ≡ rules_in_order (numbered (rules (eqb (decimal (take 2 (field 1 d))) 20)))
  unfolding readable fields_in_range status_of
  rules_are = refl

  limits_apart : (big : Bool) → (let t = numbered (tests big) in cond big (limits20_k d) (limits13_k d) ≡ (t 12 && t 42 && t 62 && t 73 && t 82 && t 163 && t 173))
  limits_apart true = simp and-true
  limits_apart false = refl

  -- the marks of one number after the other
  spaces_apart : let t = numbered (tests true) in all_follow marks d ≡ (t 102 && t 112 && t 122 && t 132 && t 142 && t 152 && t 162 && t 172)
  unfolding all_follow spaces_first
  spaces_apart = simp (and_assoc, and-true)

  tests_are : (texts_within leasts mosts (cut 0 widths d) && letters_good d && all_follow marks d && limits_good d)
      ≡ tests_in_order (numbered (tests (eqb (first (field 1 d)) (code "2"))))
  unfolding letters_good limits_good
  tests_are =
      λ i. texts_within leasts mosts (cut 0 widths d) && letters_good d && spaces_apart i && limits_apart (eqb (first (field 1 d)) (code "2")) i

  abbrev x : ℕ → ℕ
  x i = get_or bytes i 0

  fields_agree : rules_by_field (numbered (rules (eqb (x 1) 50))) ≡ tests_by_field (numbered (tests (eqb (x 1) 50)))
  unfolding every
  fields_agree =
      let big = eqb (x 1) 50 in
      λ i.
      id_text (x 1) (x 2) (x 3) i
      && (letter_text (ascii "SO") 79 83 (x 5) refl i
      && letter_text (ascii "RT") 82 84 (x 7) refl i
      && bank_text big (x 9) i
      && input_text (x 11) i
      && band_text big (x 13) (x 14) i
      && transmit_text big (x 16) (x 17) i
      && receive_text big (x 19) (x 20) i
      && letter_text (ascii "LMH") 72 77 (x 22) refl i
      && number_text (x 24) (x 25 ∷ x 26 ∷ x 27 ∷ []) 9999 (omega arith) i
      && point_text (x 29) (x 30) (x 31) (x 32 ∷ x 33 ∷ []) 9999 (omega arith) i
      && point_text (x 35) (x 36) (x 37) (x 38 ∷ x 39 ∷ []) 9999 (omega arith) i
      && point_text (x 41) (x 42) (x 43) (x 44 ∷ []) 999 (omega arith) i
      && point_text (x 46) (x 47) (x 48) (x 49 ∷ []) 999 (omega arith) i
      && number_text (x 51) (x 52 ∷ x 53 ∷ []) 999 (omega arith) i
      && warmth_text big (x 55) (x 56) (x 57) i
      && warmth_text big (x 59) (x 60) (x 61) i
      && letter_text warnings 65 89 (x 63) refl i
      && letter_text alarms 65 83 (x 65) refl i)

  -- the ID's number and its first digit tell the same, where the ID is good
  id_tells : rules_by_field (numbered (rules (eqb (decimal (x 1 ∷ x 2 ∷ [])) 20))) ≡ rules_by_field (numbered (rules (eqb (x 1) 50)))
  id_tells =
      only_if _ (λ big. behind_id (numbered (rules big))) _ _
      (λ e. first_tells (x 1) (x 2) (x 3) (sym (id_text (x 1) (x 2) (x 3)) ∙ e))

  bytes_agree : (readable d && fields_in_range (status_of 0 d)) ≡ (texts_within leasts mosts (cut 0 widths d) && letters_good d && all_follow marks d && limits_good d)
  bytes_agree =
      rules_are
      ∙ rules-by-field (numbered (rules (eqb (decimal (x 1 ∷ x 2 ∷ [])) 20)))
      ∙ id_tells
      ∙ fields_agree
      ∙ sym (tests-by-field (numbered (tests (eqb (x 1) 50))))
      ∙ sym tests_are

commas_first : (c w l s m : Bool) → (c && w && l && s && m) ≡ (c && (w && l && s && m))
commas_first c w l s m = simp and_assoc

module _ (d : List ℕ) (size : length d ≡ 67) where
  fields_alike : (readable d && fields_in_range (status_of 0 d)) ≡ (texts_within leasts mosts (cut 0 widths d) && letters_good d && all_follow marks d && limits_good d)
  fields_alike =
      subst (λ l. (readable l && fields_in_range (status_of 0 l)) ≡ (texts_within leasts mosts (cut 0 widths l) && letters_good l && all_follow marks l && limits_good l))
      (one_by_one 0 67 d size) (bytes_agree d)

  -- the rules of the data are the tests
  pub data_alike : (same d (joined (cut 0 widths d)) && readable d && fields_in_range (status_of 0 d))
      ≡ (in_bounds (joined leasts) (joined mosts) d && letters_good d && all_follow marks d && limits_good d)
  unfolding total
  data_alike =
      let commas = commas-at 0 widths d size in
      let bounds = within_joined 0 leasts mosts d refl size in
      ap (λ c. c && readable d && fields_in_range (status_of 0 d)) commas
      ∙ and_assoc (commas_at 0 widths d) (readable d) (fields_in_range (status_of 0 d))
      ∙ ap (λ b. commas_at 0 widths d && b) fields_alike
      ∙ sym
      (ap (λ b. b && letters_good d && all_follow marks d && limits_good d) bounds
      ∙ commas_first (commas_at 0 widths d) (texts_within leasts mosts (cut 0 widths d)) (letters_good d) (all_follow marks d) (limits_good d))
