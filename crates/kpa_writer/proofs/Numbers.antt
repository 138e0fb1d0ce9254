-- The numbers of responses: where none may stand behind the letters, none is in range; and the digits that the pen lays are
-- those of the rule. Assumes nothing.
use Prim.Native.Nat.{ℕ, ◌^◌, ◌≤◌, ◌<◌}
use Prim.Native.Char.{code}
use mathlib.Core.Path.{◌≡◌, refl, ◌∙◌}
use mathlib.Core.Bool.{false}
use mathlib.Core.List.{List, []}
use native.Mathlib.Omega.{arith}
use lib.ListN.{length}
use Rattle.rules.specs.Bytes.{part}
use Rattle.rules.specs.Numbers.{with_zeros}
use Rattle.rules.specs.Messages.{is_up_to}
use Rattle.rules.specs.declared.Behind.{Behind}
use Rattle.rules.specs.declared.Behind.TheVariants.{ANumber, AVersion, AClock, Alone, Anything}
use Rattle.pens.specs.Pens.{laid, number_in}
use Rattle.pens.proofs.Laid.{part_laid}
use Rattle.pens.proofs.Digits.{length_number, number_zeros}

pub none_up_to : (b : Behind) → ((width limit : ℕ) → b ≡ ANumber width limit → ⊥) → (n : ℕ) → is_up_to b n ≡ false
none_up_to (ANumber width limit) other n = absurd (other width limit refl)
none_up_to AVersion other n = refl
none_up_to AClock other n = refl
none_up_to Alone other n = refl
none_up_to Anything other n = refl

-- the digits that the pen lays at the front of a row
pub digits_laid : (width n : ℕ) (out : List ℕ) {after : List ℕ} → width ≤ length out → n < 10 ^ width → after ≡ laid 0 (number_in (code "0") width n) out → part 0 width after ≡ with_zeros width n
digits_laid width n out room h e =
    rw e (part_laid 0 width [] (number_in (code "0") width n) out refl (length_number (code "0") width n) (omega arith) ∙ number_zeros width n h)
