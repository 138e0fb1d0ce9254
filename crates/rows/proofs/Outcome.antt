-- What the number tells of a frame that was to be read and laid: with 0 the bytes are a good frame and its row stands there; with
-- another, where there is room for every row, they are none and nothing is changed. No refusal has the number 0.
-- Assumes nothing.
use Prim.Native.Nat.{ℕ, ◌≤◌}
use Rattle.rules.specs.Answers.{Read as Reading}
use Rattle.rules.specs.Refusals.{number_for}
use Rattle.rules.specs.declared.Refusal.{Refusal}
use Rattle.rules.specs.declared.Refusal.TheVariants.{NoFamily, NoCode, NoRecord, NoRoom, IsClosed, HoldsTooMuch, TooLong, NotGood}
use Rattle.std.specs.Prelude.{Err, Ok}
use mathlib.Core.Path.{◌≡◌, refl, sym, ◌∙◌}
use mathlib.Core.List.{List}
use native.Mathlib.Omega.{arith}
use borrow.Author.Tests.{eq-eqb, ne_eqb}
use lib.IntN.{ℤ}
use lib.ListN.{length}
use Rattle.rules.specs.Answers.{read_one}
use Rattle.rules.specs.declared.Frame.{Frame}
use Rattle.rows.specs.Rows.{longest_row, row, front}
use Rattle.rows.proofs.Lengths.{row_fits, room}
use Rattle.rows.specs.ReadRows.{ReadsRowAt}

-- no refusal has the number 0
pub refused_some : (e : Refusal) → number_for e ≡ 0 → ⊥
refused_some NoFamily z = omega arith
refused_some NoCode z = omega arith
refused_some NoRecord z = omega arith
refused_some NoRoom z = omega arith
refused_some IsClosed z = omega arith
refused_some HoldsTooMuch z = omega arith
refused_some TooLong z = omega arith
refused_some NotGood z = omega arith

-- the frame that was read, and its row
pub record Read (family : ℕ) (bytes : List ℕ) (taken start skipped : ℕ) (numbers after : List ℤ) : Type 0 where
  pub frame : Frame
  pub is-good : read_one family bytes ≡ Ok frame
  pub stands : after ≡ front (row taken start skipped (length bytes) frame) numbers

module _ (family : ℕ) (bytes : List ℕ) (taken start skipped : ℕ) (numbers : List ℤ) (result : ℕ) (after : List ℤ) (e : ReadsRowAt family bytes taken start skipped numbers result after) where
  pub was_read : result ≡ 0 → Read family bytes taken start skipped numbers after
  was_read zero = by_reading (read_one family bytes) refl
    where
      by_reading : (r : Reading) → read_one family bytes ≡ r → Read family bytes taken start skipped numbers after
      by_reading (Ok f) is = record {
        frame = f;
        is-good = is;
        stands = rw (is, eq-eqb result 0 zero) at e.content;
      }
      by_reading (Err n) is = absurd (refused_some n (sym (rw is at e.answers) ∙ zero))

  pub was_none : (result ≡ 0 → ⊥) → longest_row ≤ length numbers → ((f : Frame) → read_one family bytes ≡ Ok f → ⊥) × (after ≡ numbers)
  was_none some long = (
    (λ f is. some (rw is at e.answers ∙ room (row taken start skipped (length bytes) f) numbers (row_fits taken start skipped (length bytes) f) long)),
    e.content ∙ rw (ne_eqb result 0 some),
  )
