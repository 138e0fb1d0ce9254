-- A status report written and read back: its texts have the widths of the fields, so that the data is cut into the same
-- texts again, and each of them is read as the number or letter it was written for.
-- The laws of numbers in fields say so text by text; the ranges of the record give their bounds, and its form is one of the
-- two, which its line end shows. Assumes nothing.
use Prim.Native.Nat.{ℕ, suc, ◌+◌, ◌-◌, ◌/◌, ◌≤◌, ◌<◌}
use Prim.Native.Char.{code}
use mathlib.Core.Path.{◌≡◌, refl, ap, ap₂, ◌∙◌}
use mathlib.Core.Bool.{Bool, true, false, cond}
use mathlib.Core.List.{List, [], ◌∷◌, map}
use native.Mathlib.Omega.{arith}
use native.Mathlib.Nat.{le_trans}
use lib.Dec.{eqb, leb, ltb, lit≤}
use lib.ListN.{length, get_or, length-append}
use lib.Seq.{take_at}
use borrow.Author.Tests.{ltb-true, leb-true}
use Rattle.rules.specs.Bytes.{every, total}
use Rattle.rules.specs.Numbers.{with_zeros, with_spaces}
use Rattle.rules.specs.Status.{widths, cut, by, joined, comma_in, status_frame, data_of, status_texts, status_bytes, fields_in_range, status_in_range, status_of, status_in, readable, is_status}
use Rattle.rules.specs.declared.Status.{Status}
use Rattle.frame_laws.proofs.Bytes.{tests, one_of_these, same_refl}
use Rattle.frame_laws.proofs.Numbers.{digit_of, zeros_length, zeros_digits, zeros_read, zeros_padded, zeros_padded_read, spaces_length, spaces_form, spaces_read, form_padded, point_length, point_pointed, point_read}
use Rattle.frame_laws.proofs.Fields.{cut_joined, joined_length}
use Rattle.frame_laws.proofs.Comma.{comma_in_frame}

-- The bounds of the numbers, as their fields need them.
pub record Fits (s : Status) : Type 0 where
  pub id : s.id < 100
  pub input : s.input ≤ 2
  pub band : s.band ≤ 11
  pub transmit : s.transmit ≤ 6
  pub receive : s.receive ≤ 6
  pub watts : s.watts ≤ 9999
  pub swratu : s.swratu ≤ 9999
  pub swrant : s.swrant ≤ 9999
  pub volts : s.volts ≤ 999
  pub amperes : s.amperes ≤ 999
  pub upper : s.upper ≤ 999
  pub lower : s.lower ≤ 999
  pub combiner : s.combiner ≤ 999
  pub comma : s.comma ≤ 1

-- what is at most one of two bounds, by the ID, is at most the larger
by_at_most : (id a b n m : ℕ) → a ≤ n → b ≤ n → leb m (by id a b) ≡ true → m ≤ n
by_at_most id a b n m p q e = le_trans (leb-true m (by id a b) e) (larger (eqb id 20))
  where
    larger : (t : Bool) → cond t a b ≤ n
    larger true = p
    larger false = q

pub fits : (s : Status) → status_in_range s ≡ true → Fits s
unfolding status_in_range fields_in_range every
fits s e = record {
  id = ltb-true s.id 100 (one_of_these (λ n. ltb n 100) (20 ∷ 13 ∷ []) s.id refl (search tests depth 25));
  input = search (tests, leb-true) depth 25;
  band = by_at_most s.id 10 11 11 s.band (lit≤ tt) (lit≤ tt) (search tests depth 25);
  transmit = by_at_most s.id 6 4 6 s.transmit (lit≤ tt) (lit≤ tt) (search tests depth 25);
  receive = by_at_most s.id 6 4 6 s.receive (lit≤ tt) (lit≤ tt) (search tests depth 25);
  watts = search (tests, leb-true) depth 25;
  swratu = search (tests, leb-true) depth 25;
  swrant = search (tests, leb-true) depth 25;
  volts = search (tests, leb-true) depth 25;
  amperes = search (tests, leb-true) depth 25;
  upper = search (tests, leb-true) depth 25;
  lower = by_at_most s.id 999 0 999 s.lower (lit≤ tt) (lit≤ tt) (search tests depth 25);
  combiner = by_at_most s.id 999 0 999 s.combiner (lit≤ tt) (lit≤ tt) (search tests depth 25);
  comma = search (tests, leb-true) depth 25;
}

-- The texts of a record have the widths, whatever it holds.
texts_widths : (s : Status) → map length (status_texts s) ≡ widths
unfolding status_texts
texts_widths s = simp (length-append, zeros_length, spaces_length, point_length)

pub texts_length : (s : Status) → length (joined (status_texts s)) ≡ 67
unfolding total status_texts
texts_length s = joined_length (status_texts s) ∙ ap (λ (ws : List ℕ). suc (19 + total ws)) (texts_widths s)

pub texts_back : (s : Status) → cut 0 widths (joined (status_texts s)) ≡ status_texts s
texts_back s = cut_joined widths (status_texts s) (texts_widths s)

-- the text of a field, its place counted from 0
pub text_at : (s : Status) (k : ℕ) → get_or (cut 0 widths (joined (status_texts s))) k [] ≡ get_or (status_texts s) k []
text_at s k = ap (λ (ts : List (List ℕ)). get_or ts k []) (texts_back s)

-- The 67 bytes of the data stand in the frame.
pub data_in_frame : (comma : ℕ) (d : List ℕ) → length d ≡ 67 → data_of (status_frame comma d) ≡ d
unfolding status_frame
data_in_frame comma d l = take_at d _ 67 l

digit_read : (n : ℕ) → code "0" + n / 1 - code "0" ≡ n
digit_read n = omega arith

module _ (s : Status) (f : Fits s) where
  texts_readable : readable (joined (status_texts s)) ≡ true
  unfolding readable status_texts with_zeros
  texts_readable =
      rw (text_at s 0, text_at s 4, text_at s 5, text_at s 6, text_at s 7, text_at s 9, text_at s 10, text_at s 11, text_at s 12, text_at s 13, text_at s 14, text_at s 15, text_at s 16)
      (rw (
        zeros_digits 2 s.id (omega arith),
        digit_of (s.input / 1) (omega arith),
        zeros_digits 2 s.band (omega arith),
        digit_of (s.transmit / 1) (omega arith),
        digit_of (s.receive / 1) (omega arith),
        zeros_padded 4 s.watts (omega arith) (omega arith),
        point_pointed 2 2 s.swratu (omega arith) (omega arith),
        point_pointed 2 2 s.swrant (omega arith) (omega arith),
        point_pointed 2 1 s.volts (omega arith) (omega arith),
        point_pointed 2 1 s.amperes (omega arith) (omega arith),
        form_padded (with_spaces 3 s.upper) (spaces_form 3 s.upper (omega arith) (omega arith)),
        form_padded (with_spaces 3 s.lower) (spaces_form 3 s.lower (omega arith) (omega arith)),
        form_padded (with_spaces 3 s.combiner) (spaces_form 3 s.combiner (omega arith) (omega arith)),
      ))

  pub texts_values : status_of s.comma (joined (status_texts s)) ≡ s
  unfolding status_of status_texts with_zeros
  texts_values =
      rw (text_at s 0, text_at s 1, text_at s 2, text_at s 3, text_at s 4, text_at s 5, text_at s 6, text_at s 7, text_at s 8, text_at s 9, text_at s 10, text_at s 11, text_at s 12, text_at s 13, text_at s 14, text_at s 15, text_at s 16, text_at s 17, text_at s 18)
      (rw (
        zeros_read 2 s.id (omega arith),
        digit_read s.input,
        zeros_read 2 s.band (omega arith),
        digit_read s.transmit,
        digit_read s.receive,
        zeros_padded_read 4 s.watts (omega arith),
        point_read 2 2 s.swratu (omega arith) (omega arith),
        point_read 2 2 s.swrant (omega arith) (omega arith),
        point_read 2 1 s.volts (omega arith) (omega arith),
        point_read 2 1 s.amperes (omega arith) (omega arith),
        spaces_read 3 s.upper (omega arith) (omega arith),
        spaces_read 3 s.lower (omega arith) (omega arith),
        spaces_read 3 s.combiner (omega arith) (omega arith),
      ))

  -- its bytes have the record's form and its data, and so its record
  pub data_back : data_of (status_bytes s) ≡ joined (status_texts s)
  data_back = data_in_frame s.comma (joined (status_texts s)) (texts_length s)

  comma_back : comma_in (status_bytes s) ≡ s.comma
  comma_back = comma_in_frame s.comma (joined (status_texts s)) (texts_length s) f.comma

  pub record_back : status_in (status_bytes s) ≡ s
  record_back = ap₂ status_of comma_back data_back ∙ texts_values

  -- and are, as a whole, a good report
  pub report_good : status_in_range s ≡ true → is_status (status_bytes s) ≡ true
  unfolding is_status
  report_good e =
      rw (comma_back, data_back, texts_back s, same_refl (status_frame s.comma (joined (status_texts s))), same_refl (joined (status_texts s)), texts_readable, texts_values, e)
