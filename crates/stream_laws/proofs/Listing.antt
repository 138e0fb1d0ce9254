-- The rule's frames in a whole stream, and that the lister, its second entry and the reader agree on them. Each frame
-- stands where the rule says that it starts, so it is read from its own bytes, and lies inside the stream; so the counts
-- of a capture never wrap. Assumes nothing.
use Prim.Native.Nat.{ℕ, zero, suc, pred, ◌+◌, ◌-◌, ◌≤◌, ◌<◌, ◌^◌}
use Rattle.rules.specs.declared.Refusal.{Refusal}
use Rattle.stream_rules.specs.declared.Progress.{Progress}
use Rattle.rules.specs.declared.Refusal.TheVariants.{NoFamily, NoRoom, TooLong}
use Rattle.std.specs.Prelude.{Err, Ok, Result}
use mathlib.Core.Path.{◌≡◌, refl, sym, ap, ap₂, ◌∙◌}
use mathlib.Core.Bool.{Bool, true, false, cond, not}
use mathlib.Core.List.{List, [], ◌∷◌, ◌++◌, map}
use native.Mathlib.Nat.{zero-add, mod-eq_of_lt}
use native.Mathlib.Omega.{arith}
use borrow.Author.Tests.{leb-true}
use lib.Dec.{leb}
use lib.ListN.{length, take, drop, length-append, length-drop, length-map}
use lib.Seq.{take_at}
use Rattle.rules.specs.Bytes.{part}
use Rattle.rules.specs.Answers.{read_one, is_family}
use Rattle.stream_rules.specs.Heads.{Head, wait, bad, good, longest, head, at_close}
use Rattle.stream_rules.specs.Rule.{Found, Look, ready, waiting, by_head, by_look, look, rule}
use Rattle.stream_rules.specs.Streams.{wrap, Makes}
use Rattle.stream_rules.specs.Lister.{frames, starts_of, fits, Lists, first_frame, first_place}
use Rattle.stream_rules.specs.declared.Turned.{Turned}
use Rattle.stream_laws.specs.Sessions.{Session, handed, wrapped}
use Rattle.stream_laws.proofs.Facts.{Facts}
use Rattle.stream_laws.proofs.Heads.{good_head}
use Rattle.stream_laws.proofs.Looks.{found, drains, rule_drains}
use Rattle.stream_laws.proofs.Sessions.{demand3}

-- the bytes of the first frame of a list, or none; and its place, in bytes that begin at a place
abbrev pub first_of : List ℕ → List Found → List ℕ
first_of bs [] = []
first_of bs (f ∷ fs) = part f.start f.length bs

abbrev pub first_place_of : ℕ → List Found → ℕ
first_place_of from [] = 0
first_place_of from (f ∷ fs) = from + f.start

-- it holds of each frame of a list
abbrev pub Each : (Found → Type 0) → List Found → Type 0
Each P [] = Unit {0}
Each P (f ∷ fs) = P f × Each P fs

pub each_also : (P Q : Found → Type 0) → ((f : Found) → P f → Q f) → (fs : List Found) → Each P fs → Each Q fs
each_also P Q also [] e = tt
each_also P Q also (f ∷ fs) (p, e) = (also f p, each_also P Q also fs e)

-- Where a frame of the rule stands in bytes whose first has place `at`, and that no more bytes were skipped before it
-- than those and the ones before.
record Stands (h : List ℕ → Head) (at skipped : ℕ) (bs : List ℕ) (f : Found) : Type 0 where
  place : ℕ
  starts : f.start ≡ at + place
  here : h (drop place bs) ≡ good f.length f.frame
  skips : f.skipped ≤ skipped + place

stands_next : (h : List ℕ → Head) (at skipped skipped' b : ℕ) (bs : List ℕ) → skipped' ≤ suc skipped
    → (f : Found) → Stands h (suc at) skipped' bs f → Stands h at skipped (b ∷ bs) f
stands_next h at skipped skipped' b bs p f s = record {
  place = suc s.place;
  starts = omega (arith, s.starts);
  here = s.here;
  skips = omega (arith, s.skips);
}

stands_head : (h : List ℕ → Head) (at skipped b : ℕ) (bs : List ℕ) (on : List Found) (behind : ℕ → List Found)
    → Each (Stands h at skipped (b ∷ bs)) on
    → ((n : ℕ) → Each (Stands h at skipped (b ∷ bs)) (behind n))
    → (x : Head) → h (b ∷ bs) ≡ x
    → Each (Stands h at skipped (b ∷ bs)) (by_head x on on (λ n f. found at skipped n f ∷ behind n))
stands_head h at skipped b bs on behind p q wait e = p
stands_head h at skipped b bs on behind p q bad e = p
stands_head h at skipped b bs on behind p q (good n f) e = (record { place = zero; starts = omega arith; here = e; skips = omega arith }, q n)

rule_stands : (h : List ℕ → Head) (inside at skipped : ℕ) (bs : List ℕ) → Each (Stands h at skipped bs) (rule h inside at skipped bs)
unfolding rule
rule_stands h inside at skipped [] = tt
rule_stands h (suc inside) at skipped (b ∷ bs) =
    each_also
    (Stands h (suc at) skipped bs)
    (Stands h at skipped (b ∷ bs))
    (stands_next h at skipped skipped b bs (omega arith))
    (rule h inside (suc at) skipped bs)
    (rule_stands h inside (suc at) skipped bs)
rule_stands h zero at skipped (b ∷ bs) =
    stands_head h at skipped b bs
    (rule h 0 (suc at) (suc skipped) bs)
    (λ n. rule h (pred n) (suc at) 0 bs)
    (each_also
    (Stands h (suc at) (suc skipped) bs)
    (Stands h at skipped (b ∷ bs))
    (stands_next h at skipped (suc skipped) b bs (omega arith))
    (rule h 0 (suc at) (suc skipped) bs)
    (rule_stands h 0 (suc at) (suc skipped) bs))
    (λ n.
    each_also
    (Stands h (suc at) 0 bs)
    (Stands h at skipped (b ∷ bs))
    (stands_next h at skipped 0 b bs (omega arith))
    (rule h (pred n) (suc at) 0 bs)
    (rule_stands h (pred n) (suc at) 0 bs))
    (h (b ∷ bs))
    refl

-- Every frame of the rule is a good frame, read from its own bytes alone.
pub frames_read : (family : ℕ) (bs : List ℕ) → Each (λ f. read_one family (part f.start f.length bs) ≡ Ok f.frame) (frames family bs)
frames_read family bs =
    each_also
    (Stands (head family) 0 0 bs)
    (λ f. read_one family (part f.start f.length bs) ≡ Ok f.frame)
    (λ f s.
    ap (λ (i : ℕ). read_one family (part i f.length bs)) (s.starts ∙ zero-add s.place)
    ∙ (good_head family (drop s.place bs) f.length f.frame s.here).read)
    (frames family bs)
    (rule_stands (head family) 0 0 0 bs)

-- It lies inside the stream, is no longer than the family's longest, and the bytes skipped before it do too.
pub record Inside (family : ℕ) (bs : List ℕ) (f : Found) : Type 0 where
  pub above : 0 < f.length
  pub short : f.length ≤ longest family
  pub ends : f.start + f.length ≤ length bs
  pub skips : f.skipped ≤ f.start

first_drained : (h : List ℕ → Head) (bs : List ℕ) (l : Look) → by_look l (λ k n f behind. part k n bs) (λ k rest. []) ≡ first_of bs (drains h 0 0 l)
first_drained h bs (ready k n f behind) = ap (λ (i : ℕ). part i n bs) (sym (zero-add k))
first_drained h bs (waiting k rest) = refl

place_drained : (h : List ℕ → Head) (from : ℕ) (l : Look) → by_look l (λ k n f behind. from + k) (λ k rest. 0) ≡ first_place_of from (drains h 0 0 l)
place_drained h from (ready k n f behind) = ap (λ (i : ℕ). from + i) (sym (zero-add k))
place_drained h from (waiting k rest) = refl

module _ (family : ℕ) (facts : Facts (head family) (longest family)) where
  pub frames_inside : (bs : List ℕ) → Each (Inside family bs) (frames family bs)
  frames_inside bs = each_also (Stands (head family) 0 0 bs) (Inside family bs) inside (frames family bs) (rule_stands (head family) 0 0 0 bs)
    where
      inside : (f : Found) → Stands (head family) 0 0 bs f → Inside family bs f
      inside f s =
          let size = facts.fits (drop s.place bs) f.length f.frame s.here in
          let whole : f.length ≤ length bs - s.place = rw (length-drop s.place bs) at size.2 in
          let starts : f.start ≡ 0 + s.place = s.starts in
          record { above = size.0; short = size.1; ends = omega (arith, size.0); skips = omega (arith, s.skips) }

  -- In a capture nothing wraps.
  unwrapped : (bs : List ℕ) → length bs ≤ 65536 → (fs : List Found) → Each (Inside family bs) fs → map wrapped fs ≡ fs
  unwrapped bs p [] e = refl
  unwrapped bs p (f ∷ fs) (s, e) =
      let start_small : f.start < 2 ^ 32 = omega (arith, s.ends) in
      let skipped_small : f.skipped < 2 ^ 32 = omega (arith, s.ends, s.skips) in
      ap₂
      (λ (g : Found) (gs : List Found). g ∷ gs)
      (ap₂ (λ (start skipped : ℕ). found start skipped f.length f.frame) (mod-eq_of_lt start_small) (mod-eq_of_lt skipped_small))
      (unwrapped bs p fs e)

  pub capture_unwrapped : (bs : List ℕ) → length bs ≤ 65536 → map wrapped (frames family bs) ≡ frames family bs
  capture_unwrapped bs p = unwrapped bs p (frames family bs) (frames_inside bs)

  -- The earliest good frame from a place on is the first that the rule finds there.
  pub first_agrees : (bs : List ℕ) → first_frame family bs ≡ first_of bs (frames family bs)
  first_agrees bs =
      first_drained (head family) bs (look (at_close (head family)) bs)
      ∙ ap (first_of bs) (sym (rule_drains (head family) (longest family) facts bs 0 0))

  pub first_place_agrees : (bs : List ℕ) (from : ℕ) → first_place family bs from ≡ first_place_of from (frames family bs)
  first_place_agrees bs from =
      place_drained (head family) from (look (at_close (head family)) bs)
      ∙ ap (first_place_of from) (sym (rule_drains (head family) (longest family) facts bs 0 0))

-- Starts wrap as the frames do.
starts_wrapped : (fs : List Found) → starts_of (map wrapped fs) ≡ map wrap (starts_of fs)
starts_wrapped [] = refl
starts_wrapped (f ∷ fs) = ap (λ (l : List ℕ). wrap f.start ∷ l) (starts_wrapped fs)

-- The lister says how many only where nothing refuses, and then as many as the rule finds.
counted : (i a b : Bool) (m n : ℕ) → Ok n ≡ cond (not i) (Err NoFamily) (cond (not a) (Err TooLong) (cond (not b) (Err NoRoom) (Ok m)))
    → (i ≡ true) × (a ≡ true) × (b ≡ true) × (n ≡ m)
counted false a b m n e = let z : ◌≡◌ {A = ℕ} 0 1 = cc in absurd (omega arith)
counted true false b m n e = let z : ◌≡◌ {A = ℕ} 0 1 = cc in absurd (omega arith)
counted true true false m n e = let z : ◌≡◌ {A = ℕ} 0 1 = cc in absurd (omega arith)
counted true true true m n e = (refl, refl, refl, cc)

-- So where it says how many, the front of its list are the starts of all frames.
pub record AllListed (family : ℕ) (capture : List ℕ) (n : ℕ) (after : List ℕ) : Type 0 where
  pub known : is_family family ≡ true
  pub short : fits capture ≡ true
  pub many : n ≡ length (frames family capture)
  pub places : n ≤ length after
  pub all : take n after ≡ starts_of (frames family capture)

pub all_listed : (family : ℕ) (capture out : List ℕ) (answer : (Result ℕ Refusal)) (n : ℕ) (after : List ℕ) → Lists family capture out answer after → answer ≡ Ok n
    → AllListed family capture n after
all_listed family capture out answer n after lists counts =
    let fs = frames family capture in
    let says = counted (is_family family) (fits capture) (leb (length fs) (length out)) (length fs) n (sym counts ∙ lists.answers) in
    let left : after ≡ starts_of fs ++ drop (length fs) out = lists.content ∙ rw (says.0, says.1, says.2) in
    let size : length after ≡ length (starts_of fs) + length (drop (length fs) out) = ap length left ∙ length-append (starts_of fs) (drop (length fs) out) in
    let long = length-map fs (λ (f : Found). f.start) in
    record {
      known = says.0;
      short = says.1;
      many = says.3;
      places = omega (arith, size, long, says.3);
      all = ap (take n) left ∙ take_at (starts_of fs) (drop (length fs) out) n (long ∙ sym says.3);
    }

-- The reader's starts are the lister's, modulo 2^32; and on a capture its frames are the rule's, with nothing wrapped.
module _ (family : ℕ) (known : is_family family ≡ true) (facts : Facts (head family) (longest family)) (t : Turned) (begins : Makes family t)
    (stream lengths : List ℕ) (answers : List (Result Progress Refusal)) (session : Session t.reader stream lengths answers) where
  pub starts_agree : starts_of (handed answers) ≡ map wrap (starts_of (frames family stream))
  starts_agree = ap starts_of (demand3 family known facts t begins stream lengths answers session).list ∙ starts_wrapped (frames family stream)

  pub capture_agrees : length stream ≤ 65536 → handed answers ≡ frames family stream
  capture_agrees p = (demand3 family known facts t begins stream lengths answers session).list ∙ capture_unwrapped family facts stream p

  -- So where the lister says how many, the front of its list are the starts of the frames that the reader hands out.
  pub lister_agrees : (out : List ℕ) (n : ℕ) (after : List ℕ) → Lists family stream out (Ok n) after
      → (n ≡ length (handed answers)) × (take n after ≡ starts_of (handed answers))
  lister_agrees out n after lists =
      let l = all_listed family stream out (Ok n) n after lists refl in
      let agrees : handed answers ≡ frames family stream = capture_agrees (leb-true (length stream) 65536 l.short) in
      (l.many ∙ ap length (sym agrees), l.all ∙ ap starts_of (sym agrees))
