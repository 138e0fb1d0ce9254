-- When bytes are a report's frame: by their length, and by the bytes that stand in front of the data and behind it.
-- Assumes nothing.
use Prim.Native.Nat.{ℕ, ◌+◌, ◌%◌, ◌/◌, ◌≤◌}
use mathlib.Core.Path.{◌≡◌, refl, sym, ap, ◌∙◌}
use mathlib.Core.Bool.{Bool, true, false, ◌&&◌, cond, and_assoc, and-true, and-false, and_comm}
use mathlib.Core.List.{List, [], ◌∷◌, ◌++◌}
use native.Mathlib.Decide.{ℕ_discrete}
use native.Mathlib.Omega.{arith}
use borrow.Author.Tests.{le-leb}
use lib.Dec.{eqb, leb}
use lib.ListN.{length, take, drop, get_or, length-drop, take-append-drop}
use lib.Seq.{take_all, length-take-le, get_or-take, drop-drop}
use Rattle.rules.specs.Bytes.{same, part, total}
use Rattle.rules.specs.Status.{report_length_in, comma_in, line_end, status_frame, data_of, joined, cut, widths, readable, status_in_range, status_in, is_status}
use Rattle.frame_laws.proofs.Bytes.{same_eq}
use Rattle.frame_laws.proofs.Comma.{comma_in_front, report-length}
use Rattle.frame_laws.proofs.Comma as comma
use Rattle.spe.specs.Ends.{begins_report, ends_report}
use Rattle.frame_laws.proofs.Lists.{lengths_differ, next, part_elements, same_front}

abbrev pub framed : List ℕ → Bool
framed s = same s (status_frame (comma_in s) (data_of s))

-- a frame around its own data has as many bytes as its form
pub not_framed : (s : List ℕ) → (length s ≡ report_length_in s → ⊥) → framed s ≡ false
not_framed s h = lengths_differ s (status_frame (comma_in s) (data_of s)) (λ e. h (report-length s e))

-- and what is not framed is no report
no_frame : (s : List ℕ) → framed s ≡ false → is_status s ≡ false
unfolding is_status
no_frame s e =
    let d = data_of s in
    ap (λ b. b && same d (joined (cut 0 widths d)) && readable d && status_in_range (status_in s)) e

pub not_status : (s : List ℕ) → (length s ≡ report_length_in s → ⊥) → is_status s ≡ false
not_status s h = no_frame s (not_framed s h)

pub data-length : (s : List ℕ) → length s ≡ report_length_in s → length (data_of s) ≡ 67
data-length s h = length-take-le 67 (drop 4 s) (omega (arith, length-drop 4 s))

pub framed_data : (s : List ℕ) → framed s ≡ true → length (data_of s) ≡ 67
framed_data s t = comma.data-length s (ap length (same_eq s (status_frame (comma_in s) (data_of s)) t))

-- These bytes are four that stand in front, the data and what stands behind; the data is the same as itself.
abbrev front : List ℕ → Bool
front s = eqb (get_or s 0 0) 0xAA && eqb (get_or s 1 0) 0xAA && eqb (get_or s 2 0) 0xAA && eqb (get_or s 3 0) 0x43

abbrev pub sums : List ℕ → Bool
sums s = eqb (get_or s 71 0) (total (data_of s) % 256) && eqb (get_or s 72 0) (total (data_of s) / 256)

parted : (s : List ℕ) → 73 ≤ length s
    → s ≡ get_or s 0 0 ∷ get_or s 1 0 ∷ get_or s 2 0 ∷ get_or s 3 0 ∷ data_of s ++ get_or s 71 0 ∷ get_or s 72 0 ∷ drop 73 s
parted s h =
    next 4 0 s (omega arith)
    ∙ ap (λ (l : List ℕ). get_or s 0 0 ∷ get_or s 1 0 ∷ get_or s 2 0 ∷ get_or s 3 0 ∷ l)
    (sym (take-append-drop 67 (drop 4 s)) ∙ ap (λ (l : List ℕ). data_of s ++ l) (drop-drop 67 4 s ∙ next 2 71 s h))

swapped : (a b e : Bool) → (a && (b && e)) ≡ (e && (a && b))
swapped a b e = sym (and_assoc a b e) ∙ and_comm (a && b) e

by_parts : (s : List ℕ) → 73 ≤ length s → framed s ≡ (front s && same (drop 73 s) (line_end (comma_in s)) && sums s)
unfolding same status_frame
by_parts s h =
    ap (λ (l : List ℕ). same l (status_frame (comma_in s) (data_of s))) (parted s h)
    ∙ rw (same_front (data_of s)) (simp and_assoc (rw (swapped (eqb (get_or s 71 0) (total (data_of s) % 256)))))

-- The line end, byte by byte: the comma is there where it was seen.
abbrev pub line_ends : List ℕ → ℕ → Bool
line_ends s c = eqb (get_or s (73 + c) 0) 0x0D && eqb (get_or s (74 + c) 0) 0x0A

pub by_bytes : (s : List ℕ) → report_length_in s ≤ length s → same (part 73 (2 + comma_in s) s) (line_end (comma_in s)) ≡ line_ends s (comma_in s)
unfolding same comma_in
by_bytes s = go (eqb (get_or s 73 0) 44) refl
  where
    go : (b : Bool) → eqb (get_or s 73 0) 44 ≡ b → 75 + cond b 1 0 ≤ length s → same (part 73 (2 + cond b 1 0) s) (line_end (cond b 1 0)) ≡ line_ends s (cond b 1 0)
    go true e h = ap (λ (l : List ℕ). same l (44 ∷ 0x0D ∷ 0x0A ∷ [])) (part_elements 73 3 s (omega arith)) ∙ rw (e, and-true)
    go false e h = ap (λ (l : List ℕ). same l (0x0D ∷ 0x0A ∷ [])) (part_elements 73 2 s (omega arith)) ∙ rw and-true

module _ (s : List ℕ) (h : length s ≡ report_length_in s) where
  -- all that stands behind the checksum is the line end
  all_behind : part 73 (2 + comma_in s) s ≡ drop 73 s
  all_behind = take_all (2 + comma_in s) (drop 73 s) (omega (arith, length-drop 73 s))

  -- with so many bytes there is a byte at each of these places
  by_ends : framed s ≡ (begins_report s && ends_report s && sums s)
  by_ends =
      by_parts s (omega arith)
      ∙ ap (λ (l : List ℕ). front s && same l (line_end (comma_in s)) && sums s) (sym all_behind)
      ∙ sym (rw (le-leb 4 (length s) (omega arith), le-leb (report_length_in s) (length s) (omega arith)))

  pub bad_front : begins_report s ≡ false → framed s ≡ false
  bad_front e = by_ends ∙ ap (λ (b : Bool). b && ends_report s && sums s) e

  pub bad_ends : ends_report s ≡ false → framed s ≡ false
  bad_ends e = by_ends ∙ ap (λ (b : Bool). begins_report s && b && sums s) e ∙ ap (λ (b : Bool). b && sums s) (and-false (begins_report s))

  pub good_ends : begins_report s ≡ true → ends_report s ≡ true → framed s ≡ sums s
  good_ends e f = by_ends ∙ (λ i. e i && f i && sums s)

pub not_ended : (s : List ℕ) → ends_report s ≡ false → is_status s ≡ false
not_ended s e =
    elim (ℕ_discrete (length s) (report_length_in s)) [
      | yes size ↦ no_frame s (bad_ends s size e)
      | no other ↦ not_status s other
    ]

-- What stands behind a report is no part of it: its own bytes are of the same form, and end alike.
module _ (s : List ℕ) (there : report_length_in s ≤ length s) where
  abbrev own : List ℕ
  own = take (report_length_in s) s

  own_comma : comma_in own ≡ comma_in s
  own_comma = comma_in_front (report_length_in s) s (omega arith)

  own_length : length own ≡ report_length_in s
  own_length = length-take-le (report_length_in s) s there

  pub whole_end : ends_report own ≡ ends_report s
  whole_end =
      ap (λ (b : Bool). leb (report_length_in own) (length own) && b) (by_bytes own (omega (arith, own_comma, own_length)))
      ∙ ap (λ (c : ℕ). leb (75 + c) (length own) && line_ends own c) own_comma
      ∙ (λ i. leb (report_length_in s) (own_length i)
      && (eqb (get_or-take (report_length_in s) s (73 + comma_in s) 0 (omega arith) i) 0x0D && eqb (get_or-take (report_length_in s) s (74 + comma_in s) 0 (omega arith) i) 0x0A))
      ∙ rw (le-leb (report_length_in s) (report_length_in s) (omega arith), le-leb (report_length_in s) (length s) there) (sym (by_bytes s there))
