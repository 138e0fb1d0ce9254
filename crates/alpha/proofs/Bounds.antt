-- Bytes between two rows of bounds. Where the bounds are those of texts behind commas, so are the bytes, and each text
-- is from the least byte to the most; so a payload between the bounds of full width has the texts that its places
-- tell. By induction on the bounds. Assumes nothing.
use Prim.Native.Nat.{ℕ, zero, suc, ◌+◌, ◌≤◌, ◌<◌}
use mathlib.Core.Path.{◌≡◌, refl, sym, ◌∙◌, ap, ap₂}
use mathlib.Core.Bool.{Bool, true, ◌&&◌, and_assoc}
use mathlib.Core.List.{List, [], ◌∷◌, ◌++◌, map, append_assoc}
use native.Mathlib.Nat.{not-suc-le-zero, le_of_suc-le-suc}
use native.Mathlib.Omega.{arith}
use lib.ListN.{length, take, drop, get_or, replicate, take-append-drop}
use lib.Seq.{drop-drop}
use Rattle.rules.specs.Bytes.{part, between, every, total}
use Rattle.rules.specs.Status.{cut}
use Rattle.rules.specs.Sentences.{commas}
use Rattle.frame_laws.proofs.Bytes.{every_split, both, both_pass, between_bounds}
use Rattle.texts.proofs.Steps.{at as from_place}
use Rattle.texts.specs.Parts.{in_bounds}

-- what has one bound only stands there
exact : (name l m bs : List ℕ) → length name ≤ length bs → in_bounds (name ++ l) (name ++ m) bs ≡ true
    → (bs ≡ name ++ drop (length name) bs) × (in_bounds l m (drop (length name) bs) ≡ true)
unfolding in_bounds
exact [] l m bs h e = (refl, e)
exact (x ∷ name) l m [] h e = absurd (omega arith)
exact (x ∷ name) l m (b ∷ bs) h e =
    let f = both (between x x b) (in_bounds (name ++ l) (name ++ m) bs) e in
    let one = between_bounds x x b f.0 in
    let same : b ≡ x = omega arith in
    let rest = exact name l m bs (omega arith) f.1 in
    (ap₂ ◌∷◌ same rest.0, rest.1)

-- the same bounds w times over
run : (x y w : ℕ) (l m bs : List ℕ)
    → in_bounds (replicate w x ++ l) (replicate w y ++ m) bs ≡ every (between x y) (take w bs) && in_bounds l m (drop w bs)
unfolding in_bounds every
run x y zero l m bs = refl
run x y (suc w) l m [] = refl
run x y (suc w) l m (b ∷ bs) =
    ap (λ (r : Bool). between x y b && r) (run x y w l m bs)
    ∙ sym (and_assoc (between x y b) (every (between x y) (take w bs)) (in_bounds l m (drop w bs)))

-- texts of these widths, each the same byte over and over, behind commas; and where such texts end
unfoldable pub row_of : ℕ → List ℕ → List ℕ
row_of b ws = commas (map (λ w. replicate w b) ws)

abbrev pub end_of : ℕ → List ℕ → ℕ
end_of a [] = a
end_of a (w ∷ ws) = end_of (a + 1 + w) ws

-- A row of texts from place a on, of bytes from x to y, with bounds for what is behind it.
record Row (x y : ℕ) (ws l m : List ℕ) (a : ℕ) (p : List ℕ) : Type 0 where
  whole : drop a p ≡ commas (cut a ws p) ++ drop (end_of a ws) p
  texts : every (every (between x y)) (cut a ws p) ≡ true
  rest : in_bounds l m (drop (end_of a ws) p) ≡ true

row : (x y : ℕ) (ws l m : List ℕ) (a : ℕ) (p : List ℕ) → a + (length ws + total ws) ≤ length p
    → in_bounds (row_of x ws ++ l) (row_of y ws ++ m) (drop a p) ≡ true → Row x y ws l m a p
unfolding in_bounds every commas total row_of
row x y [] l m a p h e = record { whole = refl; texts = refl; rest = e }
row x y (w ∷ ws) l m a p h e =
    let here = from_place p a (omega arith) in
    let text = part (a + 1) w p in
    let f = both (between 44 44 (get_or p a 0)) _ (rw here at e) in
    let one = between_bounds 44 44 (get_or p a 0) f.0 in
    let comma : get_or p a 0 ≡ 44 = omega arith in
    let bounds =
    ap₂ (λ (u v : List ℕ). in_bounds u v (drop (a + 1) p)) (append_assoc (replicate w x) (row_of x ws) l) (append_assoc (replicate w y) (row_of y ws) m) in
    let t = both (every (between x y) text) _ (sym (run x y w (row_of x ws ++ l) (row_of y ws ++ m) (drop (a + 1) p)) ∙ sym bounds ∙ f.1) in
    let behind = row x y ws l m (a + 1 + w) p (omega arith) (rw drop-drop at t.1) in
    record {
      whole =
          here
          ∙ ap₂ ◌∷◌ comma
          (sym (take-append-drop w (drop (a + 1) p)) ∙ ap (λ (l : List ℕ). text ++ l) (drop-drop w (a + 1) p ∙ behind.whole) ∙ sym (append_assoc text _ _));
      texts = both_pass (every (between x y) text) _ t.0 behind.texts;
      rest = behind.rest;
    }

-- A name, and then such a row.
pub record Formed (x y : ℕ) (name ws l m p : List ℕ) : Type 0 where
  pub whole : p ≡ name ++ (commas (cut (length name) ws p) ++ drop (end_of (length name) ws) p)
  pub texts : every (every (between x y)) (cut (length name) ws p) ≡ true
  pub rest : in_bounds l m (drop (end_of (length name) ws) p) ≡ true

pub formed : (x y : ℕ) (name ws l m p : List ℕ) → length name + (length ws + total ws) ≤ length p
    → in_bounds (name ++ (row_of x ws ++ l)) (name ++ (row_of y ws ++ m)) p ≡ true → Formed x y name ws l m p
formed x y name ws l m p h e =
    let named = exact name (row_of x ws ++ l) (row_of y ws ++ m) p (omega arith) e in
    let r = row x y ws l m (length name) p h named.1 in
    record {
      whole = named.0 ∙ ap (λ (q : List ℕ). name ++ q) r.whole;
      texts = r.texts;
      rest = r.rest;
    }

-- what every entry of a list passes, the entry at each place passes
pub each : {A : Type 0} (test : A → Bool) (none : A) (xs : List A) (k : ℕ) → every test xs ≡ true → k < length xs → test (get_or xs k none) ≡ true
each test none [] k e h = absurd (not-suc-le-zero h)
each test none (x ∷ xs) zero e h = (every_split test x xs e).0
each test none (x ∷ xs) (suc k) e h = each test none xs k (every_split test x xs e).1 (le_of_suc-le-suc h)
