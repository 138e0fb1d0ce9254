-- Decimal fields laid one by one: what is left to lay, from the next place on, gives what all of them give from the first.
-- Assumes nothing.
use Prim.Native.Nat.{ℕ, suc, ◌+◌, ◌^◌, ◌≤◌}
use Prim.Native.Char.{code}
use mathlib.Core.Path.{◌≡◌, sym, ap, ◌∙◌}
use mathlib.Core.Bool.{true}
use mathlib.Core.List.{List, [], ◌∷◌}
use mathlib.Core.Logic.{◌⊎◌, ⊎_elim}
use native.Mathlib.Omega.{arith}
use borrow.Author.Tests.{ltb-true}
use lib.Dec.{ltb}
use lib.ListN.{length, length-append}
use Rattle.rules.specs.Numbers.{with_zeros}
use Rattle.rules.specs.Sentences.{fit, decimals, commas}
use Rattle.frame_laws.proofs.Bytes.{both}
use Rattle.frame_laws.proofs.Numbers.{zeros_length}
use Rattle.pens.specs.Pens.{laid, field_in}
use Rattle.pens.proofs.Laid.{laid_behind, length_laid, laid_none}
use Rattle.pens.proofs.Rows.{zeros_row}
use Rattle.alpha_writer.specs.Parts.{decimal_fields}

-- `ws` and `ns` are left to lay from the place on, and laid there give `whole`
pub record Left (place : ℕ) (ws ns out whole : List ℕ) : Type 0 where
  pub fits : fit ws ns ≡ true
  pub room : place + length (decimal_fields ws ns) ≤ length out
  pub rest : laid place (decimal_fields ws ns) out ≡ whole

-- one field laid
pub next : {place w n : ℕ} {ws ns out after whole : List ℕ} → Left place (w ∷ ws) (n ∷ ns) out whole → after ≡ laid place (field_in (code "0") w n) out → Left (place + (w + 1)) ws ns after whole
unfolding fit decimals commas
next {place} {w} {n} {ws} {ns} {out} {after} {whole} l e =
    let h = both (ltb n (10 ^ w)) (fit ws ns) l.fits in
    let text = code "," ∷ with_zeros w n in
    let wide : length text ≡ suc w = ap suc (zeros_length w n) in
    let room : place + length text + length (decimal_fields ws ns) ≤ length out = omega (arith, length-append (with_zeros w n) (decimal_fields ws ns), l.room) in
    let field : after ≡ laid place text out = (zeros_row w n (ltb-true n (10 ^ w) h.0) e).laying (omega arith) in
    let kept : length after ≡ length out = ap length field ∙ length_laid place text out in
    let here : place + (w + 1) ≡ place + length text = omega arith in record {
      fits = h.1;
      room = omega arith;
      rest = rw (here, field) (laid_behind place text (decimal_fields ws ns) out room ∙ l.rest);
    }

-- nothing is left where either has ended
pub all_laid : (place : ℕ) (ws ns : List ℕ) {out whole : List ℕ} → (length ws ≡ 0) ⊎ (length ns ≡ 0) → Left place ws ns out whole → out ≡ whole
unfolding decimals commas
all_laid place [] ns {out} e l = sym (laid_none place out) ∙ l.rest
all_laid place (w ∷ ws) [] {out} e l = sym (laid_none place out) ∙ l.rest
all_laid place (w ∷ ws) (n ∷ ns) e l = ⊎_elim (λ (h : length (w ∷ ws) ≡ 0). absurd (omega arith)) (λ (h : length (n ∷ ns) ≡ 0). absurd (omega arith)) e
