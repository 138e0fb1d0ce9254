-- What a capture reader gives, and how it is altered: the frame is a part of the capture that it holds, and only its place
-- changes.
use Rattle.std.specs.Prelude.{ℕ, ◌≡◌, Bool, List, Option}
use Rattle.std.specs.Borrow.{Bor}
use Rattle.rules.specs.Bytes.{part, PartOf}
use Rattle.captures.specs.Finds.{start_of, length_of, behind, next_in}
use Rattle.captures.specs.declared.spans.Span.{Span}
use Rattle.captures.specs.declared.walks.CaptureReader.{CaptureReader}

-- the part of a capture that a span is, or its empty front
abbrev pub PartAt : Bor (List ℕ) → Option Span → Bor (List ℕ) → Type 0
PartAt capture s r = PartOf capture (start_of s) (part (start_of s) (length_of s) capture.now) r

-- what is given from a place on, and the place reached
pub record GivesAt (family : ℕ) (only_reports : Bool) (capture : Bor (List ℕ)) (place place' : ℕ) (r : Bor (List ℕ)) : Type 0 where
  pub frame : PartAt capture (next_in family capture.now place only_reports) r
  pub reached : place' ≡ behind place (next_in family capture.now place only_reports)

pub record Gives (family : ℕ) (only_reports : Bool) (before after : CaptureReader) (r : Bor (List ℕ)) : Type 0 where
  pub gives : GivesAt family only_reports before.capture before.place after.place r
  pub same_capture : after.capture ≡ before.capture
