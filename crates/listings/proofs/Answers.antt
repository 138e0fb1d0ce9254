-- What the lister's answer tells a listing: the starts are all those of the rule's frames, and the lines are those of the
-- definition.
-- Assumes nothing.
use Prim.Native.Nat.{ℕ, ◌*◌, ◌≤◌}
use Rattle.rules.specs.declared.Refusal.{Refusal}
use Rattle.rules.specs.Refusals.{no_family, too_long, number_for}
use Rattle.rules.specs.declared.Refusal.TheVariants.{NoFamily, NoRoom, TooLong}
use Rattle.std.specs.Prelude.{Err, Ok, Result}
use mathlib.Core.Path.{◌≡◌, refl, sym, ap, ◌∙◌}
use mathlib.Core.Bool.{Bool, true, false, cond, not, false≢true}
use mathlib.Core.List.{List, [], ◌∷◌, ◌++◌}
use native.Mathlib.Nat.{mul-le-mul_right}
use native.Mathlib.Omega.{arith}
use borrow.Author.Tests.{le-leb, leb-true}
use lib.Dec.{leb}
use lib.ListN.{length, take}
use Rattle.rules.specs.Answers.{is_family}
use Rattle.stream_rules.specs.Heads.{shortest, shortest_frame}
use Rattle.stream_rules.specs.Rule.{Found}
use Rattle.stream_rules.specs.Lister.{frames, longest_capture, longest_list, fits, Lists}
use Rattle.stream_laws.proofs.Heads.{shortest_of_all}
use Rattle.stream_laws.proofs.Listing.{all_listed}
use Rattle.search.proofs.Walk.{few_frames}
use Rattle.lines.specs.Lines.{refused_texts}
use Rattle.listings.specs.Listing.{heading_texts, frame_lines, last_texts, listing_lines}
use Rattle.listings.specs.Tallies.{AllStarts}

-- The lister says how many starts it lists only where nothing refuses, and then the front of its list are all of them.
pub all_starts : (family : ℕ) (capture out : List ℕ) (answer : (Result ℕ Refusal)) (n : ℕ) (after : List ℕ) → Lists family capture out answer after → answer ≡ Ok n
    → AllStarts family capture (take n after)
all_starts family capture out answer n after lists counts =
    let l = all_listed family capture out answer n after lists counts in
    record { known = l.known; short = l.short; all = l.all }

-- A list with a place for as many frames as a capture can have is never too short, so the lister's answer tells the lines:
-- the refusal alone, or the heading, the frames' lines and the last.
pub room : (family : ℕ) (capture : List ℕ) → fits capture ≡ true → length (frames family capture) ≤ longest_list
room family capture short =
    let fs = frames family capture in
    let each : shortest_frame * length fs ≤ shortest family * length fs = mul-le-mul_right (length fs) (shortest_of_all family) in
    omega (arith, each, few_frames family capture, leb-true (length capture) longest_capture short)

abbrev pub lines_told : ℕ → List ℕ → (Result ℕ Refusal) → List (List (List ℕ))
lines_told family capture (Ok n) = heading_texts ∷ frame_lines family capture ++ last_texts family capture ∷ []
lines_told family capture (Err e) = refused_texts (number_for e) ∷ []

pub answer_lines : (family : ℕ) (capture out : List ℕ) (answer : (Result ℕ Refusal)) (after : List ℕ) → longest_list ≡ length out → Lists family capture out answer after
    → listing_lines family capture ≡ lines_told family capture answer
unfolding listing_lines
answer_lines family capture out answer after long lists =
    by (is_family family) (fits capture) (leb (length fs) (length out)) (λ s. le-leb (length fs) (length out) (omega (arith, room family capture s)))
    ∙ ap (lines_told family capture) (sym lists.answers)
  where
    fs : List Found
    fs = frames family capture

    by : (known short enough : Bool) → (short ≡ true → enough ≡ true)
        → cond (not known) (refused_texts no_family ∷ [])
        (cond (not short) (refused_texts too_long ∷ [])
        (heading_texts ∷ frame_lines family capture ++ last_texts family capture ∷ []))
        ≡ lines_told family capture
        (cond (not known) (Err NoFamily) (cond (not short) (Err TooLong) (cond (not enough) (Err NoRoom) (Ok (length fs)))))
    by false short enough r = refl
    by true false enough r = refl
    by true true false r = absurd (false≢true (r refl))
    by true true true r = refl
