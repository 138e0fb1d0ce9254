-- What is given stands in the capture from its start on: a frame does, and where there is none the part is the empty front.
-- And with each frame the reader goes on.
-- Assumes nothing.
use Prim.Native.Nat.{ℕ, zero, suc, ◌+◌, ◌≤◌, ◌<◌}
use mathlib.Core.Path.{◌≡◌, refl, sym, ap, subst}
use mathlib.Core.Bool.{Bool, true, false, ◌&&◌, ◌||◌, cond, not}
use mathlib.Core.List.{List, []}
use mathlib.Core.Logic.{◌⊎◌, inl, inr}
use native.Mathlib.Omega.{arith}
use borrow.Author.Tests.{lt-ltb}
use lib.Dec.{leb, ltb}
use lib.ListN.{length, drop, length-take, length-drop}
use Rattle.rules.specs.Bytes.{part}
use Rattle.rules.specs.Answers.{is_family, kind_of}
use Rattle.stream_rules.specs.Lister.{fits}
use Rattle.texts.specs.Parts.{place_in}
use Rattle.search.specs.Sought.{first_from}
use Rattle.search.specs.declared.First.{First}
use Rattle.std.specs.Prelude.{Option, Some, None}
use Rattle.search.proofs.Walk.{left, next, no_next, at_end}
use Rattle.captures.specs.declared.spans.Span.{Span}
use Rattle.captures.specs.Finds.{is_report, start_of, length_of, behind, first_wanted, next_in}

-- A part of the bytes from the span's start on stands at that start. Either it is empty and the place unchanged, or the place
-- reached is just behind it, further on, and not past the end.
pub record Stays (place : ℕ) (s : Option Span) : Type 0 where
  pub none : length_of s ≡ 0
  pub unchanged : behind place s ≡ place

pub record GoesOn (bs : List ℕ) (place : ℕ) (s : Option Span) : Type 0 where
  pub some : 0 < length_of s
  pub just_behind : behind place s ≡ start_of s + length_of s
  pub further : place < behind place s
  pub inside : behind place s ≤ length bs

pub record Spanned (bs : List ℕ) (place : ℕ) (s : Option Span) : Type 0 where
  pub stands : place_in (start_of s) bs ≡ start_of s
  pub onward : Stays place s ⊎ GoesOn bs place s

-- the empty part stands at the front
pub none_stands : (bs : List ℕ) → place_in 0 bs ≡ 0
none_stands bs = case (ltb 0 (length bs))
  where
    case : (b : Bool) → ◌≡◌ {A = ℕ} (cond b 0 0) 0
    case true = refl
    case false = refl

module _ (family : ℕ) (bs : List ℕ) (place : ℕ) (reports : Bool) where
  none_spanned : Spanned bs place None
  none_spanned = record { stands = none_stands bs; onward = inl (record { none = refl; unchanged = refl }) }

  none_left : (at : ℕ) → left family bs at ≡ [] → Spanned bs place (first_wanted reports (left family bs at))
  unfolding first_wanted
  none_left at e = subst (λ (l : Option Span). Spanned bs place l) (sym (ap (first_wanted reports) e)) none_spanned

  one_spanned : (start long : ℕ) (on : Option Span) → 0 < long → place ≤ start → start + long ≤ length bs → Spanned bs place on
      → (wanted : Bool) → Spanned bs place (cond wanted (Some (record { start = start; length = long; behind = start + long })) on)
  one_spanned start long on some later there rest true = record {
    stands = rw (lt-ltb start (length bs) (omega (arith, some, there)));
    onward = inr (record { some = some; just_behind = refl; further = omega (arith, some, later); inside = there });
  }
  one_spanned start long on some later there rest false = rest

  -- one step along the capture, and the steps behind it
  step : (fuel at : ℕ)
      → ((next_at : ℕ) → place ≤ next_at → length bs < next_at + fuel → Spanned bs place (first_wanted reports (left family bs next_at)))
      → place ≤ at → length bs < at + suc fuel
      → (x : Option First) → first_from family bs at ≡ x → Spanned bs place (first_wanted reports (left family bs at))
  unfolding first_wanted
  step fuel at more later h None e = none_left at (no_next family bs at e)
  step fuel at more later h (Some f) e =
      let n = next family bs at f e in
      let to = f.start + f.length in
      subst
      (λ (l : Option Span). Spanned bs place l)
      (sym (ap (first_wanted reports) n.lists))
      (one_spanned f.start
      f.length
      (first_wanted reports (left family bs to))
      n.some
      (omega (arith, n.place, later))
      n.there
      (more to (omega (arith, n.place, later)) (omega (arith, n.place, n.some)))
      (not reports || is_report (kind_of f.frame)))

  from_there : (fuel at : ℕ) → place ≤ at → length bs < at + fuel → Spanned bs place (first_wanted reports (left family bs at))
  from_there zero at later h = none_left at (at_end family bs at (omega arith))
  from_there (suc fuel) at later h = step fuel at (from_there fuel) later h (first_from family bs at) refl

  pub spanned : Spanned bs place (next_in family bs place reports)
  unfolding next_in
  spanned = case (is_family family && fits bs && leb place (length bs))
    where
      case : (b : Bool) → Spanned bs place (cond b (first_wanted reports (left family bs place)) None)
      case true = from_there (suc (length bs)) place (omega arith) (omega arith)
      case false = none_spanned

-- So where the part is empty the place is unchanged,
pub unmoved : (bs : List ℕ) (place : ℕ) (s : Option Span) → Spanned bs place s → length (part (start_of s) (length_of s) bs) ≡ 0 → behind place s ≡ place
unmoved bs place s spans none = case spans.onward
  where
    case : Stays place s ⊎ GoesOn bs place s → behind place s ≡ place
    case (inl stays) = stays.unchanged
    case (inr on) =
        absurd (omega (arith, length-take (length_of s) (drop (start_of s) bs), length-drop (start_of s) bs, none, on.some, on.just_behind, on.inside))

-- and where it shows something the place reached is further on.
pub advances : (bs : List ℕ) (place : ℕ) (s : Option Span) → Spanned bs place s → (length (part (start_of s) (length_of s) bs) ≡ 0 → ⊥)
    → (place < behind place s) × (behind place s ≤ length bs)
advances bs place s spans some = case spans.onward
  where
    case : Stays place s ⊎ GoesOn bs place s → (place < behind place s) × (behind place s ≤ length bs)
    case (inl stays) = absurd (some (omega (arith, length-take (length_of s) (drop (start_of s) bs), stays.none)))
    case (inr on) = (on.further, on.inside)
