-- Laws of a report's fields: texts joined by commas and cut again at their widths are the same texts, and where the
-- commas stand. By induction on the texts or the widths, over whatever stands in front of them. Assumes nothing.
use Prim.Native.Nat.{ℕ, suc, ◌+◌, ◌≤◌}
use mathlib.Core.Path.{◌≡◌, refl, sym, ap, ap₂, ◌∙◌}
use mathlib.Core.Bool.{Bool, ◌&&◌, and-true}
use mathlib.Core.List.{List, [], ◌∷◌, ◌++◌, map, append_assoc}
use native.Mathlib.Numerals.{add-one}
use native.Mathlib.Omega.{arith}
use lib.Dec.{eqb}
use lib.ListN.{length, drop, get_or, length-append, length-drop, take-append-drop}
use lib.Seq.{length-take-le, take-append_seam, drop-append-add, drop-cons, drop-drop}
use Rattle.rules.specs.Bytes.{same, part, total}
use Rattle.rules.specs.Status.{joined, cut}
use Rattle.frame_laws.proofs.Lists.{last, same_front}

-- the bytes of a text that stands behind a bytes and a comma
part_behind : (p : List ℕ) (a c : ℕ) (t q : List ℕ) → length p ≡ a → part (a + 1) (length t) (p ++ (c ∷ t ++ q)) ≡ t
part_behind p a c t q e = rw (← e, drop-append-add p (c ∷ t ++ q) 1) (take-append_seam t q)

-- Behind a bytes, the joined texts are cut into the texts.
pub cut_behind : (p : List ℕ) (a : ℕ) (texts : List (List ℕ)) → length p ≡ a → cut a (map length texts) (p ++ joined texts) ≡ texts
unfolding joined
cut_behind p a [] e = refl
cut_behind p a (t ∷ ts) e =
    ap₂ (λ (x : List ℕ) (xs : List (List ℕ)). x ∷ xs)
    (part_behind p a 44 t (joined ts) e)
    (rw append_assoc at (cut_behind (p ++ 44 ∷ t) (a + 1 + length t) ts (length-append p (44 ∷ t) ∙ omega arith)))

pub cut_joined : (ws : List ℕ) (texts : List (List ℕ)) → map length texts ≡ ws → cut 0 ws (joined texts) ≡ texts
cut_joined ws texts e = rw (← e) (cut_behind [] 0 texts refl)

-- A comma for each text, the texts, and a comma.
pub joined_length : (texts : List (List ℕ)) → length (joined texts) ≡ suc (length texts + total (map length texts))
unfolding joined total
joined_length [] = refl
joined_length (t ∷ ts) = omega (arith, length-append t (joined ts), joined_length ts)

-- Fields cut from enough bytes have their widths.
pub cut_widths : (a : ℕ) (ws bs : List ℕ) → a + (length ws + total ws) ≤ length bs → map length (cut a ws bs) ≡ ws
unfolding total
cut_widths a [] bs l = refl
cut_widths a (w ∷ ws) bs l =
    ap₂ (λ (x : ℕ) (xs : List ℕ). x ∷ xs)
    (length-take-le w (drop (a + 1) bs) (rw length-drop (omega arith)))
    (cut_widths (a + 1 + w) ws bs (omega arith))

-- a comma in front of each field, and one behind the last
abbrev pub commas_at : ℕ → List ℕ → List ℕ → Bool
commas_at a [] bs = eqb (get_or bs a 0) 44
commas_at a (w ∷ ws) bs = eqb (get_or bs a 0) 44 && commas_at (a + 1 + w) ws bs

-- Bytes of the right number are their own fields joined exactly when the commas stand there.
pub commas-at : (a : ℕ) (ws bs : List ℕ) → length bs ≡ a + suc (length ws + total ws) → same (drop a bs) (joined (cut a ws bs)) ≡ commas_at a ws bs
unfolding same joined total
commas-at a [] bs l = ap (λ (d : List ℕ). same d (44 ∷ [])) (last 1 a bs (omega arith)) ∙ and-true (eqb (get_or bs a 0) 44)
commas-at a (w ∷ ws) bs l =
    let text = part (a + 1) w bs in
    ap (λ (d : List ℕ). same d (44 ∷ text ++ joined (cut (a + 1 + w) ws bs)))
    (drop-cons bs a 0 (omega arith) ∙ ap (λ (k : ℕ). get_or bs a 0 ∷ drop k bs) (sym (add-one a)))
    ∙ ap (λ (b : Bool). eqb (get_or bs a 0) 44 && b)
    (ap (λ (d : List ℕ). same d (text ++ joined (cut (a + 1 + w) ws bs)))
    (sym (take-append-drop w (drop (a + 1) bs)) ∙ ap (λ (d : List ℕ). text ++ d) (drop-drop w (a + 1) bs))
    ∙ same_front text (drop (a + 1 + w) bs) (joined (cut (a + 1 + w) ws bs))
    ∙ commas-at (a + 1 + w) ws bs (omega arith))
