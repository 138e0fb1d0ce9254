-- Laws of `typed`: one text that fits, and one that does not; texts behind other texts; and a loop that types some texts
-- for each element of a list. Then the same of a line with its place.
-- Assumes nothing.
use Prim.Native.Nat.{ℕ, ◌+◌, ◌≤◌, ◌<◌}
use mathlib.Core.Path.{◌≡◌, refl, sym, ◌∙◌}
use mathlib.Core.List.{List, [], ◌∷◌, ◌++◌, map, flat_map}
use borrow.Author.Tests.{le-leb, lt-leb}
use lib.ListN.{length, drop, get_or, drop_of_length-le}
use Rattle.std.proofs.lemmas.List.{drop_more}
use Rattle.pens.specs.Pens.{laid}
use Rattle.lines.specs.Lines.{typed_one, typed, Types, LineTypes}
use Rattle.lines.specs.declared.Line.{Line}

pub one_fits : (text line : List ℕ) {after : List ℕ} (at : ℕ) → at + length text ≤ length line → after ≡ laid at text line → Types (text ∷ []) line at after (at + length text)
unfolding typed typed_one
one_fits text line at h is = record { leaves = rw (le-leb _ _ h, is) }

pub one_not : (text line : List ℕ) (at : ℕ) → length line < at + length text → Types (text ∷ []) line at line at
unfolding typed typed_one
one_not text line at h = record { leaves = rw (lt-leb _ _ h) }

typed_append : (xs ys : List (List ℕ)) (l : List ℕ × ℕ) → typed (xs ++ ys) l ≡ typed ys (typed xs l)
unfolding typed
typed_append [] ys l = refl
typed_append (x ∷ xs) ys l = typed_append xs ys (typed_one x l)

-- some texts, and more behind them
infixl 20 ◌then◌
pub ◌then◌ : {xs ys : List (List ℕ)} {line mid after : List ℕ} {at place end : ℕ} → Types xs line at mid place → Types ys mid place after end
    → Types (xs ++ ys) line at after end
◌then◌ {xs} {ys} {line} {mid} {after} {at} p q = record { leaves = q.leaves ∙ rw p.leaves (sym (typed_append xs ys (line, at))) }

-- a loop: what is left to be typed makes the line that all makes
pub record Left (texts : List (List ℕ)) (line : List ℕ) (at : ℕ) (whole : List ℕ × ℕ) : Type 0 where
  pub makes : typed texts (line, at) ≡ whole

-- the first texts are typed, and the others are left
pub step : {xs ys : List (List ℕ)} {line after : List ℕ} {at place : ℕ} {whole : List ℕ × ℕ} → Left (xs ++ ys) line at whole → Types xs line at after place
    → Left ys after place whole
step {xs} {ys} {line} {after} {at} {place} left p = record { makes = rw p.leaves (sym (typed_append xs ys (line, at))) ∙ left.makes }

-- nothing is left
pub finished : {line after : List ℕ} {at place : ℕ} {texts : List (List ℕ)} → Left [] after place (typed texts (line, at)) → Types texts line at after place
unfolding typed
finished left = record { leaves = left.makes }

-- a loop over a list that types some texts for each element
module _ (f : ℕ → List (List ℕ)) (i : ℕ) (xs : List ℕ) {line : List ℕ} {at : ℕ} {whole : List ℕ × ℕ} (left : Left (flat_map f (drop i xs)) line at whole) where
  pub each_step : {after : List ℕ} {place : ℕ} → i < length xs → Types (f (get_or xs i 0)) line at after place → Left (flat_map f (drop (i + 1) xs)) after place whole
  unfolding flat_map
  each_step h p = step (rw (drop_more xs i 0 h) at left) p

  pub all_typed : length xs ≤ i → Left [] line at whole
  unfolding flat_map
  all_typed h = rw (drop_of_length-le xs h) at left

-- the same where each element has one text
module _ (f : ℕ → List ℕ) (i : ℕ) (xs : List ℕ) {line : List ℕ} {at : ℕ} {whole : List ℕ × ℕ} (left : Left (map f (drop i xs)) line at whole) where
  pub each_text_step : {after : List ℕ} {place : ℕ} → i < length xs → Types (f (get_or xs i 0) ∷ []) line at after place → Left (map f (drop (i + 1) xs)) after place whole
  each_text_step h p = step (rw (drop_more xs i 0 h) at left) p

  pub all_texts_typed : length xs ≤ i → Left [] line at whole
  all_texts_typed h = rw (drop_of_length-le xs h) at left

-- A text that fits a line, and one that does not.
pub line_fits : (text : List ℕ) {line after : Line} → line.end + length text ≤ length line.bytes.now → after.bytes.now ≡ laid line.end text line.bytes.now
    → after.end ≡ line.end + length text → after.bytes.ghost_name ≡ line.bytes.ghost_name → LineTypes (text ∷ []) line after
line_fits text {line} {after} h is to same = record { types = rw to (one_fits text line.bytes.now line.end h is); same = same }

pub line_not : (text : List ℕ) (line : Line) → length line.bytes.now < line.end + length text → LineTypes (text ∷ []) line line
line_not text line h = record { types = one_not text line.bytes.now line.end h; same = refl }

-- texts on a line, and more behind them
infixl 20 ◌next◌
pub ◌next◌ : {xs ys : List (List ℕ)} {line mid after : Line} → LineTypes xs line mid → LineTypes ys mid after → LineTypes (xs ++ ys) line after
p next q = record { types = p.types then q.types; same = q.same ∙ p.same }

-- a loop over a line: what is left to be typed makes the line that all texts make of the first
pub record LineLeft (texts : List (List ℕ)) (line : Line) (all : List (List ℕ)) (first : Line) : Type 0 where
  pub left : Left texts line.bytes.now line.end (typed all (first.bytes.now, first.end))
  pub same : line.bytes.ghost_name ≡ first.bytes.ghost_name

pub line_step : {xs ys all : List (List ℕ)} {line after first : Line} → LineLeft (xs ++ ys) line all first → LineTypes xs line after → LineLeft ys after all first
line_step l p = record { left = step l.left p.types; same = p.same ∙ l.same }

pub line_finished : {all : List (List ℕ)} {line first : Line} → LineLeft [] line all first → LineTypes all first line
line_finished l = record { types = finished l.left; same = l.same }

-- a loop over a list that types a text for each element on a line
module _ (f : ℕ → List ℕ) (i : ℕ) (xs : List ℕ) {line : Line} {all : List (List ℕ)} {first : Line} (left : LineLeft (map f (drop i xs)) line all first) where
  pub line_each_step : {after : Line} → i < length xs → LineTypes (f (get_or xs i 0) ∷ []) line after → LineLeft (map f (drop (i + 1) xs)) after all first
  line_each_step h p = record { left = each_text_step f i xs left.left h p.types; same = p.same ∙ left.same }

  pub line_all_typed : length xs ≤ i → LineTypes all first line
  line_all_typed h = line_finished (record { left = all_texts_typed f i xs left.left h; same = left.same })
