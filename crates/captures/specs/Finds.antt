-- What a capture reader gives next: a frame of the capture, and the place that it has then reached.
use Rattle.std.specs.Prelude.{ℕ, ◌+◌, Bool, true, false, ◌&&◌, ◌||◌, cond, not, List, [], ◌∷◌, leb, length, drop, Option, Some, None}
use Rattle.rules.specs.Answers.{is_family, kind_of}
use Rattle.rules.specs.declared.Kind.{Kind}
use Rattle.rules.specs.declared.Kind.TheVariants.{OfAck, OfStatus, OfCommand, OfSentence, OfQuestion, OfResponse, OfLetters}
use Rattle.stream_rules.specs.Heads.{head}
use Rattle.stream_rules.specs.Rule.{Found, rule}
use Rattle.stream_rules.specs.Lister.{fits}
use Rattle.captures.specs.declared.spans.Span.{Span}

-- the frames that demand 3's rule finds from a place on
abbrev pub frames_from : ℕ → List ℕ → ℕ → List Found
frames_from family capture place = rule (head family) 0 place 0 (drop place capture)

abbrev pub is_report : Kind → Bool
is_report (OfAck c) = false
is_report OfStatus = true
is_report (OfCommand c) = false
is_report (OfSentence n) = false
is_report (OfQuestion letters) = false
is_report (OfResponse letters) = false
is_report (OfLetters w) = false

-- Where a frame stands, and the place just behind it.
abbrev pub span_of : Found → Span
span_of f = record { start = f.start; length = f.length; behind = f.start + f.length }

-- The first of the frames; when only reports are wanted, a frame that is no status report is passed over.
unfoldable pub first_wanted : Bool → List Found → Option Span
first_wanted only_reports [] = None
first_wanted only_reports (f ∷ fs) = cond (not only_reports || is_report (kind_of f.frame)) (Some (span_of f)) (first_wanted only_reports fs)

-- From a place on; also none where the place is beyond the end, or refusal 1 or 7 would apply.
unfoldable pub next_in : ℕ → List ℕ → ℕ → Bool → Option Span
next_in family capture place only_reports =
    cond (is_family family && fits capture && leb place (length capture)) (first_wanted only_reports (frames_from family capture place)) None

-- Where there is none, the part is the capture's empty front, and the place reached is the one that the search began at.
abbrev pub start_of : Option Span → ℕ
start_of None = 0
start_of (Some s) = s.start

abbrev pub length_of : Option Span → ℕ
length_of None = 0
length_of (Some s) = s.length

abbrev pub behind : ℕ → Option Span → ℕ
behind place None = place
behind place (Some s) = s.behind
