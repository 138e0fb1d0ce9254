-- How far a listing has come: what the next frame is, and what is told where all frames are listed.
-- Assumes nothing.
use Prim.Native.Nat.{ℕ, ◌+◌, ◌≤◌, ◌<◌}
use mathlib.Core.Path.{◌≡◌, sym, ap, ◌∙◌}
use mathlib.Core.List.{List, [], ◌∷◌}
use native.Mathlib.Numerals.{add-one}
use native.Mathlib.Omega.{arith}
use borrow.Author.Tests.{leb-true}
use lib.ListN.{length, take, drop, get_or}
use lib.Seq.{drop-cons, take-length}
use Rattle.rules.specs.Bytes.{part}
use Rattle.rules.specs.declared.Frame.TheVariants.{Ack}
use Rattle.stream_rules.specs.Rule.{Found}
use Rattle.stream_rules.specs.Lister.{frames, longest_capture, frame_from}
use Rattle.listings.specs.Listing.{line_texts, frame_line, inside}
use Rattle.listings.specs.Tallies.{behind_last, all_tallied, Onward}
use Rattle.listings.specs.declared.table.Tally.{Tally}
use Rattle.listings.proofs.Frames.{first, Stands, stands, given, others, between, told, end_of_more, inside_of_more}

-- There is an n-th frame.
record Nth (fs : List Found) (n : ℕ) : Type 0 where
  frame : Found
  behind : List Found
  splits : drop n fs ≡ frame ∷ behind

nth : (fs : List Found) (n : ℕ) → n < length fs → Nth fs n
nth fs n p =
    let any : Found = record { start = 0; skipped = 0; length = 0; frame = Ack 0 } in
    record { frame = get_or fs n any; behind = drop (n + 1) fs; splits = rw (add-one n) (drop-cons fs n any p) }

-- The next frame: where it starts and ends, its line and its bytes; and how far a listing has come with it.
pub record Next (capture : List ℕ) (start : ℕ) (t : Tally) : Type 0 where
  pub frame : Found
  pub starts_here : start ≡ frame.start
  pub line : frame_line t.family capture t.listed ≡ line_texts frame
  pub place : frame.start ≡ t.end + frame.skipped
  pub stands : Stands t.family capture frame.start frame.length frame.frame
  pub given : frame_from t.family capture frame.start ≡ part frame.start frame.length capture
  pub apart : t.inside ≤ t.end
  pub short : length capture ≤ longest_capture
  pub end : behind_last 0 (take (t.listed + 1) (frames t.family capture)) ≡ frame.start + frame.length
  pub counts : inside (take (t.listed + 1) (frames t.family capture)) ≡ t.inside + frame.length

pub next : (capture : List ℕ) (start : ℕ) (t : Tally) → Onward capture start t → Next capture start t
next capture start t on =
    let family = t.family in
    let n = t.listed in
    let fs = frames family capture in
    let ended : t.end ≡ behind_last 0 (take n fs) = ap (λ (x : Tally). x.end) on.reached in
    let bytes : t.inside ≡ inside (take n fs) = ap (λ (x : Tally). x.inside) on.reached in
    let here = nth fs n on.there in
    let f = here.frame in
    let x = first family capture (behind_last 0 (take n fs)) f here.behind (others family capture n 0 ∙ here.splits) in
    let b = between family capture n 0 (omega arith) in
    record {
      frame = f;
      starts_here = on.starts ∙ told f here.behind (λ (g : Found). g.start) 0 fs n here.splits;
      line = told f here.behind line_texts [] fs n here.splits;
      place = omega (arith, ended, x.place);
      stands = stands family capture f.start f.length f.frame x.here;
      given = given family capture f.start f.length f.frame on.known on.short x.here;
      apart = omega (arith, ended, bytes, b.apart);
      short = leb-true (length capture) longest_capture on.short;
      end = ap (λ (m : ℕ). behind_last 0 (take m fs)) (add-one n) ∙ end_of_more f here.behind fs n 0 here.splits;
      counts = ap (λ (m : ℕ). inside (take m fs)) (add-one n) ∙ inside_of_more f here.behind fs n here.splits ∙ ap (λ (m : ℕ). m + f.length) (sym bytes);
    }

-- Where all frames are listed, the counts are those of the last line.
pub record Told (family : ℕ) (capture : List ℕ) (t : Tally) : Type 0 where
  pub all : t.listed ≡ length (frames family capture)
  pub bytes : t.inside ≡ inside (frames family capture)
  pub within : inside (frames family capture) ≤ length capture

pub all_told : (family : ℕ) (capture : List ℕ) (t : Tally) → t ≡ all_tallied family capture → Told family capture t
all_told family capture t e =
    let fs = frames family capture in
    let b = between family capture (length fs) 0 (omega arith) in
    record {
      all = ap (λ (x : Tally). x.listed) e;
      bytes = ap (λ (x : Tally). x.inside) e ∙ ap inside (take-length fs);
      within = omega (arith, b.apart, b.within, ap inside (take-length fs));
    }
