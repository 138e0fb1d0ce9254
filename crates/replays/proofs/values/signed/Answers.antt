-- `replays::values::signed` meets its contract: a number below zero has a minus before its magnitude.
-- Assumes nothing.
use Rattle.std.proofs.Common.{◌≡◌, refl, true, false, [], ◌∷◌, ℤ, pos, negsuc, nat_abs, w64, arith}
use borrow.Author.Tests.{ltb-true}
use lib.Signed.{lt_z}
use mir.ValLaws.{to_z-of_z}
use Rattle.rules.specs.Bytes.{ascii}
use Rattle.lines.specs.Lines.{decimal_text}
use Rattle.lines.proofs.Typed.{◌next◌}
use Rattle.replays.specs.Texts.{signed_texts}
use Rattle.replays.proofs.values.signed.Goals as goal
use Rattle.replays.proofs.values.signed.Goals.{then-z-lt0, else-z-lt0}

below : (z : ℤ) → lt_z z (pos 0) ≡ true → signed_texts z ≡ ascii " -" ∷ decimal_text (nat_abs z) ∷ []
unfolding signed_texts
below (pos n) e = absurd (omega (arith, ltb-true n 0 e))
below (negsuc n) e = refl

not_below : (z : ℤ) → lt_z z (pos 0) ≡ false → signed_texts z ≡ ascii " " ∷ decimal_text (nat_abs z) ∷ []
unfolding signed_texts
not_below (pos n) e = refl
not_below (negsuc n) e = cc

pub returns : goal.returns
returns c =
    let read = to_z-of_z w64 c.args.z c.ranges.z in
    let typed = c.text.ensures next rw (c.unsigned_abs.ensures.value, read) at c.number.ensures in
    elim c.if-z-lt0.branch [
      | then-z-lt0 w ↦ rw (below c.args.z (rw read at w.if-z-lt0.true)) (rw (w.text-is, w.as_slice.ensures) at typed)
      | else-z-lt0 w ↦ rw (not_below c.args.z (rw read at w.if-z-lt0.false)) (rw (w.text-is, w.as_slice-else-z-lt0.ensures) at typed)
    ]
