-- Payloads at full width: texts with all their digits are decimal fields, and a payload whose number and texts
-- are known is good where they are. Assumes nothing.
use Prim.Native.Nat.{ℕ, ◌+◌, ◌-◌, ◌≤◌, ◌<◌}
use mathlib.Core.Path.{◌≡◌, refl, ◌∙◌, ap, subst}
use mathlib.Core.Bool.{true}
use mathlib.Core.List.{List, [], ◌∷◌, map}
use native.Mathlib.Omega.{arith}
use lib.Dec.{leb}
use lib.ListN.{length, get_or}
use borrow.Author.Tests.{le-leb}
use Rattle.rules.specs.Bytes.{part, between, every, total}
use Rattle.rules.specs.Numbers.{is_digit, decimal_from, decimal}
use Rattle.rules.specs.Status.{cut}
use Rattle.rules.specs.Sentences.{is_decimal, are_decimals}
use Rattle.rules.specs.Answers.{is_good, read_texts}
use Rattle.frame_laws.proofs.Bytes.{both, both_left, both_pass, between_bounds}
use Rattle.frame_laws.proofs.Lists.{part_elements}
use Rattle.frame_laws.proofs.Fields.{cut_widths}
use Rattle.frame_laws.proofs.Sentences.{is_text_byte, payload, payload_texts, payload_number}
use Rattle.alpha.specs.Fields.{Text}
use Rattle.alpha.specs.Payloads.{is_good_payload}

-- Texts of digits alone are decimal fields of the widths that they have.
as_wide_as_they_are : (ts : List Text) → every (leb 1) (map length ts) ≡ true → every (every is_digit) ts ≡ true
    → are_decimals (map length ts) ts ≡ true
unfolding are_decimals every
as_wide_as_they_are [] wide digits = refl
as_wide_as_they_are (t ∷ ts) wide digits =
    let w = both (leb 1 (length t)) _ wide in
    let d = both (every is_digit t) _ digits in
    both_pass (is_decimal (length t) t) _
    (both_pass (between 1 (length t) (length t)) (every is_digit t) (both_pass _ _ w.0 (le-leb (length t) (length t) (omega arith))) d.0)
    (as_wide_as_they_are ts w.1 d.1)

pub full_fields : (a : ℕ) (ws p : List ℕ) → a + (length ws + total ws) ≤ length p → every (leb 1) ws ≡ true
    → every (every is_digit) (cut a ws p) ≡ true → are_decimals ws (cut a ws p) ≡ true
full_fields a ws p h wide digits =
    let widths = cut_widths a ws p h in
    subst (λ (us : List ℕ). are_decimals us (cut a ws p) ≡ true) widths
    (as_wide_as_they_are (cut a ws p) (rw widths wide) digits)

-- A payload whose number and texts are known.
pub known : (n : ℕ) (ts : List Text) {p : List ℕ} → n < 100 → every (every is_text_byte) ts ≡ true → p ≡ payload n ts
    → is_good_payload p ≡ is_good (read_texts n ts)
known n ts small clean e = ap is_good_payload e ∙ rw (payload_number n ts small clean, payload_texts n ts small clean)

-- One digit.
pub digit : (p : List ℕ) (a : ℕ) → a + 1 ≤ length p → every is_digit (part a 1 p) ≡ true
    → (48 ≤ get_or p a 0) × (get_or p a 0 ≤ 57) × (decimal (part a 1 p) ≡ get_or p a 0 - 48)
unfolding every decimal_from
digit p a h digits =
    let here = part_elements a 1 p h in
    let x = between_bounds 48 57 (get_or p a 0) (both_left _ true (rw here at digits)) in
    (x.0, x.1, rw here (omega arith))
