-- Bounds of the data, field by field: the bounds are texts joined by commas, so data keeps them exactly when commas stand
-- between its fields and each field keeps the bounds of its text. By induction on the texts. Assumes nothing.
use Prim.Native.Nat.{ℕ, suc, ◌+◌}
use mathlib.Core.Path.{◌≡◌, refl, sym, ap, ◌∙◌}
use mathlib.Core.Bool.{Bool, true, ◌&&◌, and_assoc, and_comm}
use mathlib.Core.List.{List, [], ◌∷◌, ◌++◌, map}
use native.Mathlib.Numerals.{add-one}
use native.Mathlib.Omega.{arith}
use lib.Dec.{eqb}
use lib.ListN.{length, drop, get_or, length-drop, take-append-drop}
use lib.Seq.{length-take-le, drop-cons, drop-drop}
use Rattle.rules.specs.Bytes.{between, part, total}
use Rattle.rules.specs.Status.{joined, cut}
use Rattle.frame_laws.proofs.Fields.{commas_at}
use Rattle.frame_laws.proofs.Lists.{last}
use Rattle.texts.specs.Parts.{in_bounds}
use Rattle.spe.proofs.ReportTexts.{only}

-- each text keeps its bounds
abbrev pub texts_within : List (List ℕ) → List (List ℕ) → List (List ℕ) → Bool
texts_within [] highs texts = true
texts_within (l ∷ lows) [] texts = true
texts_within (l ∷ lows) (h ∷ highs) [] = true
texts_within (l ∷ lows) (h ∷ highs) (t ∷ texts) = in_bounds l h t && texts_within lows highs texts

-- a text and what is behind it
within_append : (l h t ls hs ts : List ℕ) → length l ≡ length t → length h ≡ length t
    → in_bounds (l ++ ls) (h ++ hs) (t ++ ts) ≡ (in_bounds l h t && in_bounds ls hs ts)
unfolding in_bounds
within_append [] [] [] ls hs ts p q = refl
within_append [] (z ∷ h) [] ls hs ts p q = absurd (omega arith)
within_append (a ∷ l) h [] ls hs ts p q = absurd (omega arith)
within_append [] h (b ∷ t) ls hs ts p q = absurd (omega arith)
within_append (a ∷ l) [] (b ∷ t) ls hs ts p q = absurd (omega arith)
within_append (a ∷ l) (z ∷ h) (b ∷ t) ls hs ts p q =
    ap (λ x. between a z b && x) (within_append l h t ls hs ts (omega arith) (omega arith))
    ∙ sym (and_assoc (between a z b) (in_bounds l h t) (in_bounds ls hs ts))

regroup : (c w cs ws : Bool) → (c && (w && (cs && ws))) ≡ (c && cs && (w && ws))
regroup c w cs ws =
    ap (λ x. c && x) (sym (and_assoc w cs ws) ∙ ap (λ x. x && ws) (and_comm w cs) ∙ and_assoc cs w ws) ∙ sym (and_assoc c cs (w && ws))

-- The bytes from place a on: a comma, a text, and so on.
pub within_joined : (a : ℕ) (lows highs : List (List ℕ)) (bs : List ℕ) → map length highs ≡ map length lows
    → length bs ≡ a + suc (length (map length lows) + total (map length lows))
    → in_bounds (joined lows) (joined highs) (drop a bs) ≡ (commas_at a (map length lows) bs && texts_within lows highs (cut a (map length lows) bs))
unfolding in_bounds joined total
within_joined a [] [] bs q l =
    ap (in_bounds (44 ∷ []) (44 ∷ [])) (last 1 a bs (omega arith)) ∙ ap (λ x. x && true) (sym (only (get_or bs a 0) 44))
within_joined a [] (y ∷ highs) bs q l = cc
within_joined a (x ∷ lows) [] bs q l = cc
within_joined a (x ∷ lows) (y ∷ highs) bs q l =
    let w = length x in
    let head : length y ≡ w = cc in
    let tail : map length highs ≡ map length lows = cc in
    let text = part (a + 1) w bs in
    let rest = drop (a + 1 + w) bs in
    let wide : length text ≡ w = length-take-le w (drop (a + 1) bs) (omega (arith, length-drop (a + 1) bs)) in
    ap (in_bounds (44 ∷ x ++ joined lows) (44 ∷ y ++ joined highs))
    (drop-cons bs a 0 (omega arith) ∙ ap (λ (k : ℕ). get_or bs a 0 ∷ drop k bs) (sym (add-one a)))
    ∙ ap (λ b. b && in_bounds (x ++ joined lows) (y ++ joined highs) (drop (a + 1) bs)) (sym (only (get_or bs a 0) 44))
    ∙ ap (λ b. eqb (get_or bs a 0) 44 && b)
    (ap (in_bounds (x ++ joined lows) (y ++ joined highs)) (sym (take-append-drop w (drop (a + 1) bs)) ∙ ap (λ d. text ++ d) (drop-drop w (a + 1) bs))
    ∙ within_append x y text (joined lows) (joined highs) rest (sym wide) (head ∙ sym wide)
    ∙ ap (λ b. in_bounds x y text && b) (within_joined (a + 1 + w) lows highs bs tail (omega arith)))
    ∙ regroup (eqb (get_or bs a 0) 44) (in_bounds x y text) (commas_at (a + 1 + w) (map length lows) bs) (texts_within lows highs (cut (a + 1 + w) (map length lows) bs))
