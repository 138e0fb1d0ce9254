-- The byte behind a report's checksum, which tells the two forms apart: it is the one that the frame was made with, a front
-- of a report that reaches behind it tells the same, and it says how many bytes the report has.
-- By the two forms. Assumes nothing.
use Prim.Native.Nat.{ℕ, zero, suc, ◌+◌, ◌/◌, ◌%◌, ◌≤◌, ◌<◌}
use mathlib.Core.Path.{◌≡◌, refl, sym, ap, ◌∙◌}
use mathlib.Core.Bool.{Bool, true, false, cond}
use mathlib.Core.List.{List, [], ◌∷◌, ◌++◌}
use native.Mathlib.Omega.{arith}
use lib.Dec.{eqb, lit≤}
use lib.ListN.{length, take, drop, get_or, length-append, length-take, length-drop}
use lib.Seq.{get_or-take, get_or-append-add}
use Rattle.rules.specs.Bytes.{total}
use Rattle.rules.specs.Status.{behind_checksum, report_length_in, comma_in, line_end, status_frame, data_of}

-- there is one comma at most
pub at_most_one : (bs : List ℕ) → comma_in bs ≤ 1
unfolding comma_in
at_most_one bs = by (eqb (get_or bs behind_checksum 0) 44)
  where
    by : (b : Bool) → cond b 1 0 ≤ 1
    by true = lit≤ tt
    by false = lit≤ tt

pub comma_in_front : (m : ℕ) (bs : List ℕ) → behind_checksum < m → comma_in (take m bs) ≡ comma_in bs
unfolding comma_in
comma_in_front m bs h = ap (λ (b : ℕ). cond (eqb b 44) 1 0) (get_or-take m bs behind_checksum 0 h)

-- what stands behind the data of a frame
abbrev behind_data : ℕ → List ℕ → List ℕ
behind_data comma d = total d % 256 ∷ total d / 256 ∷ line_end comma

first_behind : (comma : ℕ) (d : List ℕ) → length d ≡ 67 → get_or (status_frame comma d) behind_checksum 0 ≡ get_or (line_end comma) 0 0
unfolding status_frame
first_behind comma d size =
    ap (λ (k : ℕ). get_or (d ++ behind_data comma d) (k + 2) 0) (sym size) ∙ get_or-append-add d (behind_data comma d) 2 0

pub comma_in_frame : (comma : ℕ) (d : List ℕ) → length d ≡ 67 → comma ≤ 1 → comma_in (status_frame comma d) ≡ comma
unfolding comma_in
comma_in_frame zero d size few = ap (λ (b : ℕ). cond (eqb b 44) 1 0) (first_behind 0 d size)
comma_in_frame (suc zero) d size few = ap (λ (b : ℕ). cond (eqb b 44) 1 0) (first_behind 1 d size)
comma_in_frame (suc (suc n)) d size few = absurd (omega arith)

-- a line end has two bytes and the comma, a frame eight around its data and the comma
pub end_length : (comma : ℕ) → comma ≤ 1 → length (line_end comma) ≡ 2 + comma
end_length zero few = refl
end_length (suc zero) few = refl
end_length (suc (suc n)) few = absurd (omega arith)

pub frame_length : (comma : ℕ) (d : List ℕ) → comma ≤ 1 → length (status_frame comma d) ≡ 8 + length d + comma
unfolding status_frame
frame_length comma d few = omega (arith, length-append d (behind_data comma d), end_length comma few)

-- and whatever form a record claims, no more than nine
pub frame_at_most : (comma : ℕ) (d : List ℕ) → length (status_frame comma d) ≤ 9 + length d
unfolding status_frame
frame_at_most comma d = omega (arith, length-append d (behind_data comma d), end_at_most (eqb comma 1))
  where
    end_at_most : (b : Bool) → length {A = ℕ} (cond b (44 ∷ 0x0D ∷ 0x0A ∷ []) (0x0D ∷ 0x0A ∷ [])) ≤ 3
    end_at_most true = lit≤ tt
    end_at_most false = lit≤ tt

-- so bytes that are as many as a frame around their own data have 67 of these, and are as many as their form says
module _ (bs : List ℕ) (e : length bs ≡ length (status_frame (comma_in bs) (data_of bs))) where
  size : length bs ≡ 8 + length (data_of bs) + comma_in bs
  size = e ∙ frame_length (comma_in bs) (data_of bs) (at_most_one bs)

  pub data-length : length (data_of bs) ≡ 67
  data-length = omega (arith, size, length-take 67 (drop 4 bs), length-drop 4 bs)

  pub report-length : length bs ≡ report_length_in bs
  report-length = omega (arith, size, data-length)
