-- What a look at held bytes finds, over any family: a frame whose start is the first that is not bad, or the bytes from
-- the first undecided start on; and what it leaves to demand 3's rule. Each goes start by start. Assumes nothing.
use Prim.Native.Nat.{ℕ, zero, suc, ◌+◌, ◌-◌, ◌≤◌, ◌<◌}
use mathlib.Core.Path.{◌≡◌, refl, sym, ap, subst, ◌∙◌}
use mathlib.Core.List.{List, [], ◌∷◌, ◌++◌}
use mathlib.Core.Logic.{◌⊎◌, inl, inr}
use native.Mathlib.Nat.{add-zero, add-suc, suc-add, zero-add}
use native.Mathlib.Omega.{arith}
use lib.ListN.{length, drop, length-drop}
use lib.Seq.{drop-append-le}
use Rattle.rules.specs.declared.Frame.{Frame}
use Rattle.stream_rules.specs.Heads.{Head, wait, bad, good, at_close, closed_head}
use Rattle.stream_rules.specs.Rule.{Found, Look, ready, waiting, by_head, past, look, rule}
use Rattle.stream_laws.proofs.Facts.{Facts, good_stays, bad_stays}

-- What holds of no bytes, of an undecided start and of a good one, and of a bad start if it holds behind it, holds of
-- every look.
module _ (h : List ℕ → Head) (P : List ℕ → Look → Type 0)
    (on_none : P [] (waiting zero []))
    (on_wait : (b : ℕ) (bs : List ℕ) → h (b ∷ bs) ≡ wait → P (b ∷ bs) (waiting zero (b ∷ bs)))
    (on_bad : (b : ℕ) (bs : List ℕ) (l : Look) → h (b ∷ bs) ≡ bad → P bs l → P (b ∷ bs) (past l))
    (on_good : (b : ℕ) (bs : List ℕ) (n : ℕ) (f : Frame) → h (b ∷ bs) ≡ good n f → P (b ∷ bs) (ready zero n f (drop n (b ∷ bs)))) where
  one_start : (b : ℕ) (bs : List ℕ) (l : Look) → P bs l → (x : Head) → h (b ∷ bs) ≡ x
      → P (b ∷ bs) (by_head x (waiting zero (b ∷ bs)) (past l) (λ n f. ready zero n f (drop n (b ∷ bs))))
  one_start b bs l p wait e = on_wait b bs e
  one_start b bs l p bad e = on_bad b bs l e p
  one_start b bs l p (good n f) e = on_good b bs n f e

  by_starts : (bs : List ℕ) → P bs (look h bs)
  unfolding look
  by_starts [] = on_none
  by_starts (b ∷ bs) = one_start b bs (look h bs) (by_starts bs) (h (b ∷ bs)) refl

-- The frame that is ready is the first start that is not bad, and what is behind it is left.
pub record FrameFirst (h : List ℕ → Head) (bs : List ℕ) (k n : ℕ) (f : Frame) (behind : List ℕ) : Type 0 where
  pub before : (j : ℕ) → j < k → h (drop j bs) ≡ bad
  pub here : h (drop k bs) ≡ good n f
  pub rest : behind ≡ drop (k + n) bs

-- Where none is ready, what is left are the bytes from the first undecided start on, or none.
pub record OpenFirst (h : List ℕ → Head) (bs : List ℕ) (k : ℕ) (kept : List ℕ) : Type 0 where
  pub before : (j : ℕ) → j < k → h (drop j bs) ≡ bad
  pub place : k ≤ length bs
  pub rest : kept ≡ drop k bs
  pub undecided : (kept ≡ []) ⊎ (h kept ≡ wait)

abbrev Seen : (List ℕ → Head) → List ℕ → Look → Type 0
Seen h bs (ready k n f behind) = FrameFirst h bs k n f behind
Seen h bs (waiting k kept) = OpenFirst h bs k kept

none_before : (h : List ℕ → Head) (bs : List ℕ) (j : ℕ) → j < 0 → h (drop j bs) ≡ bad
none_before h bs j p = absurd (omega arith)

one_more_before : (h : List ℕ → Head) (b : ℕ) (bs : List ℕ) (k : ℕ) → h (b ∷ bs) ≡ bad → ((j : ℕ) → j < k → h (drop j bs) ≡ bad)
    → (j : ℕ) → j < suc k → h (drop j (b ∷ bs)) ≡ bad
one_more_before h b bs k e p zero q = e
one_more_before h b bs k e p (suc j) q = p j (omega arith)

seen_bad : (h : List ℕ → Head) (b : ℕ) (bs : List ℕ) (l : Look) → h (b ∷ bs) ≡ bad → Seen h bs l → Seen h (b ∷ bs) (past l)
seen_bad h b bs (ready k n f behind) e s = record {
  before = one_more_before h b bs k e s.before;
  here = s.here;
  rest = s.rest ∙ ap (λ (i : ℕ). drop i (b ∷ bs)) (sym (suc-add k n));
}
seen_bad h b bs (waiting k kept) e s = record {
  before = one_more_before h b bs k e s.before;
  place = omega (arith, s.place);
  rest = s.rest;
  undecided = s.undecided;
}

seen : (h : List ℕ → Head) (bs : List ℕ) → Seen h bs (look h bs)
seen h =
    by_starts h
    (Seen h)
    (record { before = none_before h []; place = omega arith; rest = refl; undecided = inl refl })
    (λ b bs e. record { before = none_before h (b ∷ bs); place = omega arith; rest = refl; undecided = inr e })
    (seen_bad h)
    (λ b bs n f e. record { before = none_before h (b ∷ bs); here = e; rest = ap (λ (i : ℕ). drop i (b ∷ bs)) (sym (zero-add n)) })

pub look_ready : (h : List ℕ → Head) (bs : List ℕ) (k n : ℕ) (f : Frame) (behind : List ℕ) → look h bs ≡ ready k n f behind → FrameFirst h bs k n f behind
look_ready h bs k n f behind e = subst (Seen h bs) e (seen h bs)

pub look_waiting : (h : List ℕ → Head) (bs : List ℕ) (k : ℕ) (kept : List ℕ) → look h bs ≡ waiting k kept → OpenFirst h bs k kept
look_waiting h bs k kept e = subst (Seen h bs) e (seen h bs)

-- Bytes that still belong to the last frame are passed over by the rule.
rule_inside : (h : List ℕ → Head) (n at skipped : ℕ) (bs : List ℕ) → rule h n at skipped bs ≡ rule h 0 (at + n) skipped (drop n bs)
unfolding rule
rule_inside h zero at skipped bs = ap (λ (i : ℕ). rule h 0 i skipped bs) (sym (add-zero at))
rule_inside h (suc n) at skipped [] = refl
rule_inside h (suc n) at skipped (b ∷ bs) = rule_inside h n (suc at) skipped bs ∙ ap (λ (i : ℕ). rule h 0 i skipped (drop n bs)) (omega arith)

-- a frame as the rule lists it
abbrev pub found : ℕ → ℕ → ℕ → Frame → Found
found start skipped n f = record { start = start; skipped = skipped; length = n; frame = f }

-- The rule lists a good head and goes on right behind it. A bad head it skips, and an undecided one too: it is given the
-- whole stream.
pub rule_good : (h : List ℕ → Head) (at skipped : ℕ) (b : ℕ) (bs : List ℕ) (n : ℕ) (f : Frame) → h (b ∷ bs) ≡ good n f → 0 < n
    → rule h 0 at skipped (b ∷ bs) ≡ found at skipped n f ∷ rule h 0 (at + n) 0 (drop n (b ∷ bs))
unfolding rule
rule_good h at skipped b bs zero f e p = absurd (omega arith)
rule_good h at skipped b bs (suc n) f e p =
    rw e
    (ap (λ (fs : List Found). found at skipped (suc n) f ∷ fs)
    (rule_inside h n (suc at) 0 bs ∙ ap (λ (i : ℕ). rule h 0 i 0 (drop n bs)) (omega arith)))

pub rule_bad : (h : List ℕ → Head) (at skipped : ℕ) (b : ℕ) (bs : List ℕ) → h (b ∷ bs) ≡ bad
    → rule h 0 at skipped (b ∷ bs) ≡ rule h 0 (suc at) (suc skipped) bs
unfolding rule
rule_bad h at skipped b bs e = rw e

pub rule_wait : (h : List ℕ → Head) (at skipped : ℕ) (b : ℕ) (bs : List ℕ) → h (b ∷ bs) ≡ wait
    → rule h 0 at skipped (b ∷ bs) ≡ rule h 0 (suc at) (suc skipped) bs
unfolding rule
rule_wait h at skipped b bs e = rw e

-- What a look leaves to the rule, whatever comes later: a frame, and then what is behind it; or what was kept.
abbrev pub goes_on : (List ℕ → Head) → ℕ → ℕ → List ℕ → Look → List Found
goes_on h at skipped later (ready k n f behind) = found (at + k) (skipped + k) n f ∷ rule h 0 (at + (k + n)) 0 (behind ++ later)
goes_on h at skipped later (waiting k kept) = rule h 0 (at + k) (skipped + k) (kept ++ later)

goes_on_past : (h : List ℕ → Head) (at skipped : ℕ) (later : List ℕ) (l : Look) → goes_on h (suc at) (suc skipped) later l ≡ goes_on h at skipped later (past l)
goes_on_past h at skipped later (ready k n f behind) = simp (suc-add, add-suc)
goes_on_past h at skipped later (waiting k kept) = simp (suc-add, add-suc)

-- What a look at close leaves to the rule: a frame, and then what is behind it; or nothing.
abbrev pub drains : (List ℕ → Head) → ℕ → ℕ → Look → List Found
drains h at skipped (ready k n f behind) = found (at + k) (skipped + k) n f ∷ rule h 0 (at + (k + n)) 0 behind
drains h at skipped (waiting k kept) = []

drains_past : (h : List ℕ → Head) (at skipped : ℕ) (l : Look) → drains h (suc at) (suc skipped) l ≡ drains h at skipped (past l)
drains_past h at skipped (ready k n f behind) = simp (suc-add, add-suc)
drains_past h at skipped (waiting k kept) = refl

-- A look at bytes and at what comes later, from a look at the bytes: a frame that is ready is the same, and a look that
-- found none goes on from what it left.
abbrev pub beyond : ℕ → Look → Look
beyond k (ready j n f behind) = ready (k + j) n f behind
beyond k (waiting j kept) = waiting (k + j) kept

abbrev pub further : (List ℕ → Head) → List ℕ → Look → Look
further h later (ready k n f behind) = ready k n f (behind ++ later)
further h later (waiting k kept) = beyond k (look h (kept ++ later))

beyond_zero : (l : Look) → l ≡ beyond 0 l
beyond_zero (ready k n f behind) = simp zero-add
beyond_zero (waiting k kept) = simp zero-add

beyond_past : (k : ℕ) (l : Look) → past (beyond k l) ≡ beyond (suc k) l
beyond_past k (ready j n f behind) = simp suc-add
beyond_past k (waiting j kept) = simp suc-add

further_past : (h : List ℕ → Head) (later : List ℕ) (l : Look) → past (further h later l) ≡ further h later (past l)
further_past h later (ready k n f behind) = refl
further_past h later (waiting k kept) = beyond_past k (look h (kept ++ later))

look_bad : (h : List ℕ → Head) (b : ℕ) (bs : List ℕ) → h (b ∷ bs) ≡ bad → look h (b ∷ bs) ≡ past (look h bs)
unfolding look
look_bad h b bs e = rw e

look_good : (h : List ℕ → Head) (b : ℕ) (bs : List ℕ) (n : ℕ) (f : Frame) → h (b ∷ bs) ≡ good n f → look h (b ∷ bs) ≡ ready 0 n f (drop n (b ∷ bs))
unfolding look
look_good h b bs n f e = rw e

-- At close a head is bad where it was bad or undecided, and good where it was good.
closed_no_wait : (x : Head) → closed_head x ≡ wait → ⊥
closed_no_wait wait e = let z : ◌≡◌ {A = ℕ} 0 1 = cc in omega arith
closed_no_wait bad e = let z : ◌≡◌ {A = ℕ} 0 1 = cc in omega arith
closed_no_wait (good n f) e = let z : ◌≡◌ {A = ℕ} 0 1 = cc in omega arith

closed_bad : (x : Head) → closed_head x ≡ bad → (x ≡ wait) ⊎ (x ≡ bad)
closed_bad wait e = inl refl
closed_bad bad e = inr refl
closed_bad (good n f) e = let z : ◌≡◌ {A = ℕ} 0 1 = cc in absurd (omega arith)

pub closed_good : (x : Head) (n : ℕ) (f : Frame) → closed_head x ≡ good n f → x ≡ good n f
closed_good wait n f e = let z : ◌≡◌ {A = ℕ} 0 1 = cc in absurd (omega arith)
closed_good bad n f e = let z : ◌≡◌ {A = ℕ} 0 1 = cc in absurd (omega arith)
closed_good (good m g) n f e = e

-- Where a look finds no frame, the bytes are those skipped and those kept; at close, none is kept.
pub open_adds_up : (h : List ℕ → Head) (bs : List ℕ) (k : ℕ) (kept : List ℕ) → OpenFirst h bs k kept → k + length kept ≡ length bs
open_adds_up h bs k kept w = rw (w.rest, length-drop k bs) (omega (arith, w.place))

pub drained_all : (h : List ℕ → Head) (bs : List ℕ) (k : ℕ) (kept : List ℕ) → look (at_close h) bs ≡ waiting k kept → (k ≡ length bs) × (kept ≡ [])
drained_all h bs k kept e =
    let w = look_waiting (at_close h) bs k kept e in
    let none : kept ≡ [] = go w.undecided in
    let size : length bs - k ≡ 0 = sym (length-drop k bs) ∙ ap length (sym w.rest ∙ none) in
    (omega (arith, w.place), none)
  where
    go : (kept ≡ []) ⊎ (at_close h kept ≡ wait) → kept ≡ []
    go (inl p) = p
    go (inr p) = absurd (closed_no_wait (h kept) p)

module _ (h : List ℕ → Head) (top : ℕ) (facts : Facts h top) where
  -- the rule on bytes and on what comes later
  pub rule_look : (later bs : List ℕ) (at skipped : ℕ) → rule h 0 at skipped (bs ++ later) ≡ goes_on h at skipped later (look h bs)
  rule_look later =
      by_starts h
      (λ bs l. (at skipped : ℕ) → rule h 0 at skipped (bs ++ later) ≡ goes_on h at skipped later l)
      (λ at skipped. simp add-zero)
      (λ b bs e at skipped. simp add-zero)
      (λ b bs l e p at skipped.
      rule_bad h at skipped b (bs ++ later) (bad_stays h top facts (b ∷ bs) later e)
      ∙ p (suc at) (suc skipped)
      ∙ goes_on_past h at skipped later l)
      (λ b bs n f e at skipped.
      rule_good h at skipped b (bs ++ later) n f (good_stays h top facts (b ∷ bs) later n f e) (facts.fits (b ∷ bs) n f e).0
      ∙ simp (add-zero, zero-add, drop-append-le n (b ∷ bs) later (facts.fits (b ∷ bs) n f e).2))

  pub look_on : (later bs : List ℕ) → look h (bs ++ later) ≡ further h later (look h bs)
  look_on later =
      by_starts h
      (λ bs l. look h (bs ++ later) ≡ further h later l)
      (beyond_zero (look h later))
      (λ b bs e. beyond_zero (look h (b ∷ bs ++ later)))
      (λ b bs l e p.
      look_bad h b (bs ++ later) (bad_stays h top facts (b ∷ bs) later e) ∙ ap past p ∙ further_past h later l)
      (λ b bs n f e.
      look_good h b (bs ++ later) n f (good_stays h top facts (b ∷ bs) later n f e)
      ∙ simp (drop-append-le n (b ∷ bs) later (facts.fits (b ∷ bs) n f e).2))

  -- the rule on the last bytes
  skips : (at skipped : ℕ) (b : ℕ) (bs : List ℕ) → (h (b ∷ bs) ≡ wait) ⊎ (h (b ∷ bs) ≡ bad)
      → rule h 0 at skipped (b ∷ bs) ≡ rule h 0 (suc at) (suc skipped) bs
  skips at skipped b bs (inl e) = rule_wait h at skipped b bs e
  skips at skipped b bs (inr e) = rule_bad h at skipped b bs e

  pub rule_drains : (bs : List ℕ) (at skipped : ℕ) → rule h 0 at skipped bs ≡ drains h at skipped (look (at_close h) bs)
  unfolding rule
  rule_drains =
      by_starts (at_close h)
      (λ bs l. (at skipped : ℕ) → rule h 0 at skipped bs ≡ drains h at skipped l)
      (λ at skipped. refl)
      (λ b bs e at skipped. absurd (closed_no_wait (h (b ∷ bs)) e))
      (λ b bs l e p at skipped.
      skips at skipped b bs (closed_bad (h (b ∷ bs)) e) ∙ p (suc at) (suc skipped) ∙ drains_past h at skipped l)
      (λ b bs n f e at skipped.
      let g : h (b ∷ bs) ≡ good n f = closed_good (h (b ∷ bs)) n f e in
      rule_good h at skipped b bs n f g (facts.fits (b ∷ bs) n f g).0
      ∙ simp (add-zero, zero-add))

  -- A look that finds no frame leaves an undecided start; having no byte is one.
  pub kept_waits : (bs : List ℕ) (k : ℕ) (kept : List ℕ) → look h bs ≡ waiting k kept → h kept ≡ wait
  kept_waits bs k kept e = go (look_waiting h bs k kept e).undecided
    where
      go : (kept ≡ []) ⊎ (h kept ≡ wait) → h kept ≡ wait
      go (inl p) = ap h p ∙ facts.empty
      go (inr p) = p

  -- Where it finds one, the bytes are those skipped, those of the frame, and those behind it.
  pub frame_adds_up : (bs : List ℕ) (k n : ℕ) (f : Frame) → h (drop k bs) ≡ good n f → k + (n + length (drop (k + n) bs)) ≡ length bs
  frame_adds_up bs k n f e =
      let size = facts.fits (drop k bs) n f e in
      let whole : n ≤ length bs - k = rw (length-drop k bs) at size.2 in
      rw (length-drop (k + n) bs) (omega (arith, size.0))
