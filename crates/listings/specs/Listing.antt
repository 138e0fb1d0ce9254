-- The listing of a capture, over the frames that demand 3's rule finds in it. A line is some texts, one behind the
-- other.
use Rattle.std.specs.Prelude.{ℕ, ◌-◌, cond, not, length, get_or}
use Rattle.rules.specs.Refusals.{no_family, too_long}
use Prim.Native.Char.{code}
use mathlib.Core.List.{List, [], ◌∷◌, ◌++◌, map, flat_map}
use Rattle.rules.specs.Bytes.{ascii, total}
use Rattle.rules.specs.Answers.{is_family, kind_of}
use Rattle.stream_rules.specs.Rule.{Found}
use Rattle.stream_rules.specs.Lister.{frames, fits}
use Rattle.lines.specs.Lines.{decimal_text, spaced_texts, refused_texts}
use Rattle.listings.specs.Kinds.{kind_texts}

-- the names of the columns
abbrev pub heading_texts : List (List ℕ)
heading_texts = ascii "start length skipped kind" ∷ []

-- The line of a frame: its start, its length, the bytes skipped before it and its kind, with a space between each two.
abbrev pub number_texts : ℕ → ℕ → ℕ → List (List ℕ)
number_texts start long skipped = decimal_text start ∷ spaced_texts long ++ spaced_texts skipped ++ ascii " " ∷ []

abbrev pub line_texts : Found → List (List ℕ)
line_texts f = number_texts f.start f.length f.skipped ++ kind_texts (kind_of f.frame)

-- the lines of all frames, and the n-th of them
abbrev pub frame_lines : ℕ → List ℕ → List (List (List ℕ))
frame_lines family capture = map line_texts (frames family capture)

abbrev pub frame_line : ℕ → List ℕ → ℕ → List (List ℕ)
frame_line family capture n = get_or (frame_lines family capture) n []

-- how many bytes some frames have together
abbrev pub inside : List Found → ℕ
inside fs = total (map (λ (f : Found). f.length) fs)

-- The last line: how many frames there are, how many bytes, and how many bytes in no frame.
abbrev pub last_texts : ℕ → List ℕ → List (List ℕ)
last_texts family capture =
    ascii "frames" ∷ spaced_texts (length (frames family capture))
    ++ ascii " bytes" ∷ spaced_texts (length capture)
    ++ ascii " skipped" ∷ spaced_texts (length capture - inside (frames family capture))

-- All lines; refusal 1, then 7, is a line alone.
unfoldable pub listing_lines : ℕ → List ℕ → List (List (List ℕ))
listing_lines family capture =
    cond (not (is_family family)) (refused_texts no_family ∷ [])
    (cond (not (fits capture)) (refused_texts too_long ∷ [])
    (heading_texts ∷ frame_lines family capture ++ last_texts family capture ∷ []))

-- texts one behind the other; and a line as it is printed, with a line feed behind it
abbrev pub one_text : List (List ℕ) → List ℕ
one_text texts = flat_map (λ (text : List ℕ). text) texts

abbrev pub printed : List (List ℕ) → List ℕ
printed texts = one_text texts ++ ascii "\n"

-- the whole text
abbrev pub listing : ℕ → List ℕ → List ℕ
listing family capture = flat_map printed (listing_lines family capture)

-- The program's whole output for its input, which is the family's digit and the capture. Without a digit there is no
-- family.
abbrev pub output : List ℕ → List ℕ
output [] = printed (refused_texts no_family)
output (digit ∷ capture) = listing (digit - code "0") capture

-- so many bytes has a line that is lent
abbrev pub line_room : ℕ
line_room = 128
