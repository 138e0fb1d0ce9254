-- What `next` promises follows from what `find` and `text` promise: the part is the span's, and it stands at the span's start.
-- And what is promised leaves the place unchanged where the part is empty.
-- Assumes nothing.
use Prim.Native.Nat.{ℕ, ◌+◌}
use mathlib.Core.Path.{◌≡◌, refl, sym, ap, subst, ◌∙◌}
use mathlib.Core.Bool.{Bool}
use mathlib.Core.List.{List, []}
use lib.ListN.{length}
use Rattle.std.specs.Prelude.{Option, None}
use denote.Ref.{Bor}
use Rattle.rules.specs.Bytes.{part, PartOf}
use Rattle.texts.specs.Parts.{place_in}
use Rattle.captures.specs.Finds.{start_of, length_of, behind, next_in}
use Rattle.captures.specs.declared.spans.Span.{Span}
use Rattle.captures.proofs.Standing.{none_stands, spanned, unmoved as still}
use Rattle.frame_laws.proofs.Bytes.{front_stands}
use Rattle.captures.specs.declared.walks.CaptureReader.{CaptureReader}
use Rattle.captures.specs.Captures.{PartAt, GivesAt, Gives}

-- what `text` promises of the part that a span is, or of the empty front
abbrev pub TextOf : Bor (List ℕ) → Option Span → Bor (List ℕ) → Type 0
TextOf capture s r = PartOf capture (place_in (start_of s) capture.now) (part (start_of s) (length_of s) capture.now) r

-- the empty front is what it promises where there is no span
pub nothing_shown : (capture r : Bor (List ℕ)) → r.now ≡ [] → r.ref_ptr ≡ capture.ref_ptr → TextOf capture None r
nothing_shown capture r none same = record { content = none; stands = same ∙ front_stands capture.ref_ptr _ (none_stands capture.now) }

-- the reader at the place behind a span, or where it was
abbrev pub moved : CaptureReader → Option Span → CaptureReader
moved h s = record { capture = h.capture; place = behind h.place s }

module _ (family : ℕ) (reports : Bool) (h : CaptureReader) (r : Bor (List ℕ)) where
  abbrev there : Option Span
  there = next_in family h.capture.now h.place reports

  -- the part stands where `text` places it, and that is the span's start
  part_at : TextOf h.capture there r → PartAt h.capture there r
  part_at p = record {
    content = p.content;
    stands = p.stands ∙ ap (λ (n : ℕ). (h.capture.ref_ptr.0, n + h.capture.ref_ptr.1)) (spanned family h.capture.now h.place reports).stands;
  }

  pub gives : (s : Option Span) → s ≡ there → TextOf h.capture s r → Gives family reports h (moved h s) r
  gives s e p = record {
    gives = record { frame = part_at (subst (λ (x : Option Span). TextOf h.capture x r) e p); reached = ap (behind h.place) e };
    same_capture = refl;
  }

-- Where the part is empty, the place is unchanged.
pub unmoved : (family : ℕ) (reports : Bool) (capture : Bor (List ℕ)) (place place' : ℕ) (r : Bor (List ℕ))
    → GivesAt family reports capture place place' r → length r.now ≡ 0 → place' ≡ place
unmoved family reports capture place place' r given none =
    given.reached
    ∙ still capture.now place (next_in family capture.now place reports) (spanned family capture.now place reports)
    (ap length (sym given.frame.content) ∙ none)
