-- How far a listing has come: the tally of the frames that it has listed, in the rule's order.
use Rattle.std.specs.Prelude.{ℕ, ◌+◌, ◌<◌, ◌≡◌, true, List, [], ◌∷◌, length, take, get_or}
use Rattle.rules.specs.Answers.{is_family}
use Rattle.stream_rules.specs.Rule.{Found}
use Rattle.stream_rules.specs.Lister.{frames, starts_of, fits}
use Rattle.lines.specs.Lines.{Types}
use Rattle.lines.specs.declared.Line.{Line}
use Rattle.listings.specs.Listing.{frame_line, inside, last_texts}
use Rattle.listings.specs.declared.table.Tally.{Tally}

-- the place behind the last of some frames; where there is none, a place that is given
unfoldable pub behind_last : ℕ → List Found → ℕ
behind_last at [] = at
behind_last at (f ∷ fs) = behind_last (f.start + f.length) fs

-- the tally of the first n frames, and of all
abbrev pub tallied : ℕ → List ℕ → ℕ → Tally
tallied family capture n = record {
  family = family;
  listed = n;
  end = behind_last 0 (take n (frames family capture));
  inside = inside (take n (frames family capture));
}

abbrev pub all_tallied : ℕ → List ℕ → Tally
all_tallied family capture = tallied family capture (length (frames family capture))

-- the starts of all frames of a capture that the lister does not refuse
pub record AllStarts (family : ℕ) (capture starts : List ℕ) : Type 0 where
  pub known : is_family family ≡ true
  pub short : fits capture ≡ true
  pub all : starts ≡ starts_of (frames family capture)

-- A tally is right, and another frame is to be listed, which starts at this place.
pub record Onward (capture : List ℕ) (start : ℕ) (t : Tally) : Type 0 where
  pub known : is_family t.family ≡ true
  pub short : fits capture ≡ true
  pub reached : t ≡ tallied t.family capture t.listed
  pub there : t.listed < length (frames t.family capture)
  pub starts : start ≡ get_or (starts_of (frames t.family capture)) t.listed 0

-- Texts are laid from a line's front, over the bytes that are lent to it, which stay the same bytes.
pub record LaysLine (texts : List (List ℕ)) (line after : Line) : Type 0 where
  pub types : Types texts line.bytes.now 0 after.bytes.now after.end
  pub same : after.bytes.ghost_name ≡ line.bytes.ghost_name

-- The line of that frame is laid so, and it is tallied.
pub record LaysNext (capture : List ℕ) (t : Tally) (line after : Line) (r : Tally) : Type 0 where
  pub types : Types (frame_line t.family capture t.listed) line.bytes.now 0 after.bytes.now after.end
  pub same : after.bytes.ghost_name ≡ line.bytes.ghost_name
  pub further : r ≡ tallied t.family capture (t.listed + 1)

-- The last line is laid so.
abbrev pub LaysLast : List ℕ → Tally → Line → Line → Type 0
LaysLast capture t line after = LaysLine (last_texts t.family capture) line after
