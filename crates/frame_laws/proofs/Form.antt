-- A status report read and written again: it gives its own data if, and only if, that stood in the writer's form.
-- One way the texts of the record are in the form; the other way each text is what its value is written as.
-- Assumes nothing.
use Prim.Native.Nat.{ℕ, ◌-◌}
use Prim.Native.Char.{code}
use mathlib.Core.Path.{◌≡◌, refl, sym, ap, ◌∙◌, subst}
use mathlib.Core.Bool.{true}
use mathlib.Core.List.{List, [], ◌∷◌, ◌++◌, map}
use native.Mathlib.Omega.{arith}
use lib.ListN.{length, take, get_or}
use borrow.Author.Tests.{eqb-true}
use Rattle.rules.specs.Bytes.{first, every, total}
use Rattle.rules.specs.Numbers.{is_digit, decimal, padded_number, with_zeros, with_spaces}
use Rattle.rules.specs.Status.{widths, cut, field, joined, status_texts, status_of, readable, comma_in, status_frame, data_of, status_in, status_bytes, status_in_range, is_status}
use Rattle.rules.specs.Form.{zeros_in_front, spaces_in_front, status_form}
use Rattle.rules.specs.declared.Status.{Status}
use Rattle.frame_laws.proofs.Bytes.{tests, same_eq, between_bounds}
use Rattle.frame_laws.proofs.Numbers.{one_digit, zeros_digits, zeros_write, digits_padded_number, spaces_form, spaces_write, point_form, point_write}
use Rattle.frame_laws.proofs.Fields.{cut_widths}
use Rattle.frame_laws.proofs.Comma.{data-length}
use Rattle.frame_laws.proofs.Report.{Fits, fits, text_at, data_back}

-- The texts of a record that fits are in the form.
pub texts_form : (s : Status) → Fits s → status_form (joined (status_texts s)) ≡ true
unfolding status_form status_texts
texts_form s f =
    rw (text_at s 9, text_at s 10, text_at s 11, text_at s 12, text_at s 13, text_at s 14, text_at s 15, text_at s 16)
    (rw (
      zeros_digits 4 s.watts (omega arith),
      point_form 2 2 s.swratu (omega arith) (omega arith),
      point_form 2 2 s.swrant (omega arith) (omega arith),
      point_form 2 1 s.volts (omega arith) (omega arith),
      point_form 2 1 s.amperes (omega arith) (omega arith),
      spaces_form 3 s.upper (omega arith) (omega arith),
      spaces_form 3 s.lower (omega arith) (omega arith),
      spaces_form 3 s.combiner (omega arith) (omega arith),
    ))

-- Each kind of text, from its value: a letter; a digit; a digit and a letter; digits and a letter; a padded number.
letter_text : (t : List ℕ) → length t ≡ 1 → first t ∷ [] ≡ t
letter_text [] l = absurd (omega arith)
letter_text (b ∷ []) l = refl
letter_text (b ∷ c ∷ t) l = absurd (omega arith)

digit_write : (b : ℕ) → is_digit b ≡ true → with_zeros 1 (b - code "0") ≡ b ∷ []
digit_write b e = let h = between_bounds (code "0") (code "9") b e in rw one_digit (ap (λ (n : ℕ). n ∷ []) (omega arith))

digit_text : (t : List ℕ) → length t ≡ 1 → is_digit (first t) ≡ true → with_zeros 1 (first t - code "0") ≡ t
digit_text t l e = digit_write (first t) e ∙ letter_text t l

antenna_text : (t : List ℕ) (c : ℕ) → length t ≡ 2 → is_digit (first t) ≡ true → get_or t 1 0 ≡ c → with_zeros 1 (first t - code "0") ++ c ∷ [] ≡ t
antenna_text [] c l e h = absurd (omega arith)
antenna_text (x ∷ []) c l e h = absurd (omega arith)
antenna_text (x ∷ y ∷ []) c l e h = rw (digit_write x e, h)
antenna_text (x ∷ y ∷ z ∷ t) c l e h = absurd (omega arith)

id_text : (t : List ℕ) (c : ℕ) → length t ≡ 3 → every is_digit (take 2 t) ≡ true → get_or t 2 0 ≡ c → with_zeros 2 (decimal (take 2 t)) ++ c ∷ [] ≡ t
id_text [] c l e h = absurd (omega arith)
id_text (x ∷ []) c l e h = absurd (omega arith)
id_text (x ∷ y ∷ []) c l e h = absurd (omega arith)
id_text (x ∷ y ∷ z ∷ []) c l e h = rw (zeros_write (x ∷ y ∷ []) e, h)
id_text (x ∷ y ∷ z ∷ u ∷ t) c l e h = absurd (omega arith)

digits_text : (w : ℕ) (t : List ℕ) → length t ≡ w → every is_digit t ≡ true → with_zeros w (decimal t) ≡ t
digits_text w t l e = rw (← l) (zeros_write t e)

zeros_text : (w : ℕ) (t : List ℕ) → length t ≡ w → zeros_in_front t ≡ true → with_zeros w (padded_number t) ≡ t
zeros_text w t l e = rw (digits_padded_number t e) (digits_text w t l e)

spaces_text : (w : ℕ) (t : List ℕ) → length t ≡ w → spaces_in_front t ≡ true → with_spaces w (padded_number t) ≡ t
spaces_text w t l e = rw (← l) (spaces_write t e)

-- 67 readable bytes in the form are the texts of their record, with a comma or without.
module _ (comma : ℕ) (d : List ℕ) (l : length d ≡ 67) (r : readable d ≡ true) (f : status_form d ≡ true) where
  -- the width of a field, its place counted from 0
  width_at : (k : ℕ) → get_or (map length (cut 0 widths d)) k 0 ≡ get_or widths k 0
  unfolding total
  width_at k = ap (λ (ws : List ℕ). get_or ws k 0) (cut_widths 0 widths d (omega arith))

  pub form_texts : status_texts (status_of comma d) ≡ cut 0 widths d
  unfolding status_texts status_of readable status_form
  form_texts =
      rw (
        id_text (field 1 d) (code "K") (width_at 0) (search tests depth 20) (eqb-true (get_or (field 1 d) 2 0) (code "K") (search tests depth 20)),
        letter_text (field 2 d) (width_at 1),
        letter_text (field 3 d) (width_at 2),
        letter_text (field 4 d) (width_at 3),
        digit_text (field 5 d) (width_at 4) (search tests depth 20),
        digits_text 2 (field 6 d) (width_at 5) (search tests depth 20),
        antenna_text (field 7 d) (get_or (field 7 d) 1 0) (width_at 6) (search tests depth 20) refl,
        antenna_text (field 8 d) (code "r") (width_at 7) (search tests depth 20) (eqb-true (get_or (field 8 d) 1 0) (code "r") (search tests depth 20)),
        letter_text (field 9 d) (width_at 8),
        zeros_text 4 (field 10 d) (width_at 9) (search tests depth 20),
        point_write 2 2 (field 11 d) (width_at 10) (search tests depth 20) (search tests depth 20),
        point_write 2 2 (field 12 d) (width_at 11) (search tests depth 20) (search tests depth 20),
        point_write 2 1 (field 13 d) (width_at 12) (search tests depth 20) (search tests depth 20),
        point_write 2 1 (field 14 d) (width_at 13) (search tests depth 20) (search tests depth 20),
        spaces_text 3 (field 15 d) (width_at 14) (search tests depth 20),
        spaces_text 3 (field 16 d) (width_at 15) (search tests depth 20),
        spaces_text 3 (field 17 d) (width_at 16) (search tests depth 20),
        letter_text (field 18 d) (width_at 17),
        letter_text (field 19 d) (width_at 18),
      )

-- A good report, written again.
module _ (bs : List ℕ) (good : is_status bs ≡ true) where
  pub in_frame : bs ≡ status_frame (comma_in bs) (data_of bs)
  unfolding is_status
  in_frame = same_eq bs (status_frame (comma_in bs) (data_of bs)) (search tests depth 20)

  joined_again : data_of bs ≡ joined (cut 0 widths (data_of bs))
  unfolding is_status
  joined_again = same_eq (data_of bs) (joined (cut 0 widths (data_of bs))) (search tests depth 20)

  pub report_in_range : status_in_range (status_in bs) ≡ true
  unfolding is_status
  report_in_range = search tests

  pub form_of_written : status_bytes (status_in bs) ≡ bs → status_form (data_of bs) ≡ true
  form_of_written e =
      let s = status_in bs in
      let in-range = fits s report_in_range in
      let data_again : joined (status_texts s) ≡ data_of bs = sym (data_back s in-range) ∙ ap data_of e in
      subst (λ (d : List ℕ). status_form d ≡ true) data_again (texts_form s in-range)

  pub written_of_form : status_form (data_of bs) ≡ true → status_bytes (status_in bs) ≡ bs
  unfolding is_status status_of
  written_of_form f =
      let texts = form_texts (comma_in bs) (data_of bs) (data-length bs (ap length in_frame)) (search tests depth 20) f in
      ap (status_frame (comma_in bs)) (ap joined texts ∙ sym joined_again) ∙ sym in_frame
