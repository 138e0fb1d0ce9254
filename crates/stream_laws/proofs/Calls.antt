-- One call, over any family: it takes no byte more than the frame that it hands out needs, and hands out what demand 3's
-- rule finds next. A call is a look at what is held and the first bytes offered, with as few of these as make a frame
-- ready; so all of it follows from what a look finds. Assumes nothing.
use Prim.Native.Nat.{ℕ, zero, suc, ◌+◌, ◌≤◌, ◌<◌}
use mathlib.Core.Path.{◌≡◌, refl, sym, ap, subst, ◌∙◌}
use mathlib.Core.List.{List, [], ◌∷◌, ◌++◌, append-nil, append_assoc}
use native.Mathlib.Decide.{dec_le}
use native.Mathlib.Omega.{arith}
use lib.ListN.{length, take, drop, get_or, length-append, take-append-drop}
use lib.Seq.{length-take-le, take-suc}
use Rattle.rules.specs.declared.Frame.{Frame}
use Rattle.stream_rules.specs.Heads.{Head, at_close}
use Rattle.stream_rules.specs.Rule.{Look, ready, waiting, by_look, look, rule, Call, gives, wants, took, call}
use Rattle.stream_laws.proofs.Facts.{Facts, short}
use Rattle.stream_laws.proofs.Looks.{FrameFirst, OpenFirst, look_ready, look_waiting, found, goes_on, drains, beyond, further}
use Rattle.stream_laws.proofs.Looks.{closed_good, rule_look, rule_drains, look_on, kept_waits, drained_all, frame_adds_up, open_adds_up}

-- no frame is ready
abbrev pub Waits : Look → Type 0
Waits (ready k n f behind) = ⊥
Waits (waiting k kept) = Unit {0}

-- A call hands out a frame: it is ready in what was held and taken, and with a byte less none was.
pub record Handed (h : List ℕ → Head) (held offered : List ℕ) (taken k n : ℕ) (f : Frame) (kept : List ℕ) : Type 0 where
  pub within : taken ≤ length offered
  pub looks : look h (held ++ take taken offered) ≡ ready k n f kept
  pub none_sooner : (j : ℕ) → j < taken → Waits (look h (held ++ take j offered))

-- A call wants more: it took everything, and no frame was ready at any byte.
pub record Wanted (h : List ℕ → Head) (held offered : List ℕ) (taken k : ℕ) (kept : List ℕ) : Type 0 where
  pub everything : taken ≡ length offered
  pub looks : look h (held ++ offered) ≡ waiting k kept
  pub none_sooner : (j : ℕ) → j < taken → Waits (look h (held ++ take j offered))

abbrev Met : (List ℕ → Head) → List ℕ → List ℕ → Call → Type 0
Met h held offered (gives taken k n f kept) = Handed h held offered taken k n f kept
Met h held offered (wants taken k kept) = Wanted h held offered taken k kept

waits_beyond : (k : ℕ) (l : Look) → Waits l → Waits (beyond k l)
waits_beyond k (ready j n f behind) w = w
waits_beyond k (waiting j kept) w = w

module _ (h : List ℕ → Head) (top : ℕ) (facts : Facts h top) where
  -- Before a byte is taken:
  ready_met : (held offered : List ℕ) (k n : ℕ) (f : Frame) (kept : List ℕ) → look h held ≡ ready k n f kept → Handed h held offered zero k n f kept
  ready_met held offered k n f kept e = record {
    within = omega arith;
    looks = ap (look h) (append-nil held) ∙ e;
    none_sooner = λ j p. absurd (omega arith);
  }

  none_offered : (held : List ℕ) (l : Look) → look h held ≡ l → Met h held [] (by_look l (gives zero) (wants zero))
  none_offered held (ready k n f kept) e = ready_met held [] k n f kept e
  none_offered held (waiting k kept) e = record {
    everything = refl;
    looks = ap (look h) (append-nil held) ∙ e;
    none_sooner = λ j p. absurd (omega arith);
  }

  -- Once a byte is taken, the call goes on as a call that holds it.
  module _ (held : List ℕ) (k : ℕ) (rest : List ℕ) (e : look h held ≡ waiting k rest) (b : ℕ) (bs : List ℕ) where
    moved : (cs : List ℕ) → look h (held ++ b ∷ cs) ≡ beyond k (look h (rest ++ b ∷ [] ++ cs))
    moved cs =
        look_on h top facts (b ∷ cs) held
        ∙ ap (further h (b ∷ cs)) e
        ∙ ap (λ (l : List ℕ). beyond k (look h l)) (sym (append_assoc rest (b ∷ []) cs))

    one_more_waits : (taken : ℕ) → ((j : ℕ) → j < taken → Waits (look h (rest ++ b ∷ [] ++ take j bs)))
        → (j : ℕ) → j < suc taken → Waits (look h (held ++ take j (b ∷ bs)))
    one_more_waits taken w zero p = subst Waits (sym (ap (look h) (append-nil held) ∙ e)) tt
    one_more_waits taken w (suc j) p =
        subst Waits (sym (moved (take j bs))) (waits_beyond k (look h (rest ++ b ∷ [] ++ take j bs)) (w j (omega arith)))

    took_met : (c : Call) → Met h (rest ++ b ∷ []) bs c → Met h held (b ∷ bs) (took k c)
    took_met (gives taken j n f kept) m = record {
      within = omega (arith, m.within);
      looks = moved (take taken bs) ∙ ap (beyond k) m.looks;
      none_sooner = one_more_waits taken m.none_sooner;
    }
    took_met (wants taken j kept) m = record {
      everything = ap suc m.everything;
      looks = moved bs ∙ ap (beyond k) m.looks;
      none_sooner = one_more_waits taken m.none_sooner;
    }

  some_offered : (held : List ℕ) (b : ℕ) (bs : List ℕ) → ((rest : List ℕ) → Met h rest bs (call h rest bs))
      → (l : Look) → look h held ≡ l → Met h held (b ∷ bs) (by_look l (gives zero) (λ k rest. took k (call h (rest ++ b ∷ []) bs)))
  some_offered held b bs m (ready k n f kept) e = ready_met held (b ∷ bs) k n f kept e
  some_offered held b bs m (waiting k rest) e = took_met held k rest e b bs (call h (rest ++ b ∷ []) bs) (m (rest ++ b ∷ []))

  met : (offered held : List ℕ) → Met h held offered (call h held offered)
  unfolding call
  met [] held = none_offered held (look h held) refl
  met (b ∷ bs) held = some_offered held b bs (met bs) (look h held) refl

-- Where a frame is ready behind k skipped bytes, at most k and the longest frame's bytes were held and taken: with one
-- byte less, what was held and taken behind the first undecided start was shorter than the longest frame.
start_beyond : (k : ℕ) (l : Look) (j n : ℕ) (f : Frame) (kept : List ℕ) → beyond k l ≡ ready j n f kept → k ≤ j
start_beyond k (ready i m g behind) j n f kept e = let same : k + i ≡ j = cc in omega arith
start_beyond k (waiting i rest) j n f kept e = let z : ◌≡◌ {A = ℕ} 0 1 = cc in absurd (omega arith)

module _ (h : List ℕ → Head) (top : ℕ) (facts : Facts h top) (bs : List ℕ) (b : ℕ) where
  one_byte_less : (k n : ℕ) (f : Frame) (kept : List ℕ) → look h (bs ++ b ∷ []) ≡ ready k n f kept
      → (l : Look) → look h bs ≡ l → Waits l → length bs < k + top
  one_byte_less k n f kept e (ready i m g behind) s w = absurd w
  one_byte_less k n f kept e (waiting i rest) s w =
      let later : i ≤ k = start_beyond i (look h (rest ++ b ∷ [])) k n f kept (sym (look_on h top facts (b ∷ []) bs ∙ ap (further h (b ∷ [])) s) ∙ e) in
      let size : i + length rest ≡ length bs = open_adds_up h bs i rest (look_waiting h bs i rest s) in
      let few : length rest < top = short h top facts rest (kept_waits h top facts bs i rest s) in
      omega arith

module _ (h : List ℕ → Head) (top : ℕ) (facts : Facts h top) (held offered : List ℕ) where
  in_time : (taken k n : ℕ) (f : Frame) (kept : List ℕ) → length held < top → Handed h held offered taken k n f kept → length held + taken ≤ k + top
  in_time zero k n f kept p given = omega arith
  in_time (suc taken) k n f kept p given =
      let bs : List ℕ = held ++ take taken offered in
      let step : held ++ take (suc taken) offered ≡ bs ++ get_or offered taken 0 ∷ [] =
      ap (λ (l : List ℕ). held ++ l) (take-suc offered taken 0 given.within) ∙ sym (append_assoc held (take taken offered) (get_or offered taken 0 ∷ [])) in
      let few : length bs < k + top =
      one_byte_less h top facts bs (get_or offered taken 0) k n f kept (sym (ap (look h) step) ∙ given.looks) (look h bs) refl (given.none_sooner taken (omega arith)) in
      let size : length bs ≡ length held + taken = length-append held (take taken offered) ∙ ap (λ (i : ℕ). length held + i) (length-take-le taken offered (omega (arith, given.within))) in
      omega arith

cut_at : (taken : ℕ) (held offered later : List ℕ) → held ++ (offered ++ later) ≡ held ++ take taken offered ++ (drop taken offered ++ later)
cut_at taken held offered later =
    sym
    (append_assoc held (take taken offered) (drop taken offered ++ later)
    ∙ ap (λ (l : List ℕ). held ++ l) (sym (append_assoc (take taken offered) (drop taken offered) later) ∙ ap (λ (l : List ℕ). l ++ later) (take-append-drop taken offered)))

-- What a call gives, and what it wants.
module _ (h : List ℕ → Head) (top : ℕ) (facts : Facts h top) (held offered : List ℕ) where
  module _ (taken k n : ℕ) (f : Frame) (kept : List ℕ) (e : call h held offered ≡ gives taken k n f kept) where
    -- It stops taking when a frame is ready, and takes not one byte more than needed.
    pub call_gives : Handed h held offered taken k n f kept
    call_gives = subst (Met h held offered) e (met h top facts offered held)

    -- No later frame is handed out while an earlier start is undecided: all starts before it are bad in the bytes taken.
    pub gives_first : FrameFirst h (held ++ take taken offered) k n f kept
    gives_first = look_ready h (held ++ take taken offered) k n f kept call_gives.looks

    -- A frame has at least one byte.
    pub gives_above : 0 < n
    gives_above = (facts.fits (drop k (held ++ take taken offered)) n f gives_first.here).0

    -- What was held and taken is the skipped bytes, the frame's, and those kept.
    pub gives_adds_up : k + (n + length kept) ≡ length held + taken
    gives_adds_up =
        let first = gives_first in
        ap (λ (l : List ℕ). k + (n + length l)) first.rest
        ∙ frame_adds_up h top facts (held ++ take taken offered) k n f first.here
        ∙ length-append held (take taken offered)
        ∙ ap (λ (i : ℕ). length held + i) (length-take-le taken offered call_gives.within)

    -- It is what the rule finds next, whatever comes later; the rule goes on with what was kept and what was not taken.
    pub rule_gives : (at skipped : ℕ) (later : List ℕ) → rule h 0 at skipped (held ++ (offered ++ later))
        ≡ found (at + k) (skipped + k) n f ∷ rule h 0 (at + (k + n)) 0 (kept ++ (drop taken offered ++ later))
    rule_gives at skipped later =
        ap (rule h 0 at skipped) (cut_at taken held offered later)
        ∙ rule_look h top facts (drop taken offered ++ later) (held ++ take taken offered) at skipped
        ∙ ap (goes_on h at skipped (drop taken offered ++ later)) call_gives.looks

    -- When it is handed out, no byte is taken beyond the longest frame's last, counted from this frame's first.
    pub gives_in_time : length held < top → n + length kept ≤ top
    gives_in_time p =
        let given = call_gives in
        let size : k + (n + length kept) ≡ length held + taken = gives_adds_up in
        let none_late : length held + taken ≤ k + top = in_time h top facts held offered taken k n f kept p given in
        omega arith

    -- So less is kept than the longest frame has.
    pub gives_short : length held < top → length kept < top
    gives_short p = let late : n + length kept ≤ top = gives_in_time p in omega (arith, gives_above)

  module _ (taken k : ℕ) (kept : List ℕ) (e : call h held offered ≡ wants taken k kept) where
    -- It wants more only when it took everything and no frame is ready.
    pub call_wants : Wanted h held offered taken k kept
    call_wants = subst (Met h held offered) e (met h top facts offered held)

    -- It keeps the bytes from the first undecided start on, or none.
    pub wants_first : OpenFirst h (held ++ offered) k kept
    wants_first = look_waiting h (held ++ offered) k kept call_wants.looks

    -- What was held and taken is the skipped bytes and those kept.
    pub wants_adds_up : k + length kept ≡ length held + taken
    wants_adds_up =
        open_adds_up h (held ++ offered) k kept wants_first
        ∙ length-append held offered
        ∙ ap (λ (i : ℕ). length held + i) (sym call_wants.everything)

    -- That is less than the longest frame has.
    pub wants_short : length kept < top
    wants_short = short h top facts kept (kept_waits h top facts (held ++ offered) k kept call_wants.looks)

    -- The rule has found nothing, and goes on with what was kept.
    pub rule_wants : (at skipped : ℕ) (later : List ℕ) → rule h 0 at skipped (held ++ (offered ++ later)) ≡ rule h 0 (at + k) (skipped + k) (kept ++ later)
    rule_wants at skipped later =
        ap (rule h 0 at skipped) (sym (append_assoc held offered later))
        ∙ rule_look h top facts later (held ++ offered) at skipped
        ∙ ap (goes_on h at skipped later) call_wants.looks

-- The other way round: a frame that is ready with so many of the bytes offered, and with no fewer, is what the call gives;
-- and where none is ready with all of them, it wants more.
module _ (h : List ℕ → Head) (top : ℕ) (facts : Facts h top) (held offered : List ℕ) where
  -- a frame that is ready with some of the bytes offered is ready with all
  ready_with_all : (taken k n : ℕ) (f : Frame) (kept : List ℕ) → look h (held ++ take taken offered) ≡ ready k n f kept
      → look h (held ++ offered) ≡ ready k n f (kept ++ drop taken offered)
  ready_with_all taken k n f kept e =
      ap (look h) (ap (λ (l : List ℕ). held ++ l) (sym (take-append-drop taken offered)) ∙ sym (append_assoc held (take taken offered) (drop taken offered)))
      ∙ look_on h top facts (drop taken offered) (held ++ take taken offered)
      ∙ ap (further h (drop taken offered)) e

  ready_once : (t u k n k' n' : ℕ) (f f' : Frame) (kept kept' : List ℕ) → Handed h held offered t k n f kept → Handed h held offered u k' n' f' kept' → t ≤ u
  ready_once t u k n k' n' f f' kept kept' a b = go (dec_le t u)
    where
      go : Dec (t ≤ u) → t ≤ u
      go (yes p) = p
      go (no p) = absurd (subst Waits b.looks (a.none_sooner u (omega arith)))

  pub handed_call : (taken k n : ℕ) (f : Frame) (kept : List ℕ) → Handed h held offered taken k n f kept → call h held offered ≡ gives taken k n f kept
  handed_call taken k n f kept m = go (call h held offered) refl
    where
      go : (c : Call) → call h held offered ≡ c → c ≡ gives taken k n f kept
      go (gives t i j g rest) e =
          let a = call_gives h top facts held offered t i j g rest e in
          let less : t ≤ taken = ready_once t taken i j k n g f rest kept a m in
          let more : taken ≤ t = ready_once taken t k n i j f g kept rest m a in
          let same : t ≡ taken = omega arith in
          let looks : ready i j g rest ≡ ready k n f kept = sym a.looks ∙ ap (λ (u : ℕ). look h (held ++ take u offered)) same ∙ m.looks in
          cc
      go (wants t i rest) e =
          let none = (call_wants h top facts held offered t i rest e).looks in
          let some = ready_with_all taken k n f kept m.looks in
          cc (none, some)

  pub wanted_call : (k : ℕ) (kept : List ℕ) → look h (held ++ offered) ≡ waiting k kept → call h held offered ≡ wants (length offered) k kept
  wanted_call k kept m = go (call h held offered) refl
    where
      go : (c : Call) → call h held offered ≡ c → c ≡ wants (length offered) k kept
      go (gives t i j g rest) e =
          let some = ready_with_all t i j g rest (call_gives h top facts held offered t i j g rest e).looks in
          cc (some, m)
      go (wants t i rest) e =
          let a = call_wants h top facts held offered t i rest e in
          let all : t ≡ length offered = a.everything in
          let looks : waiting i rest ≡ waiting k kept = sym a.looks ∙ m in
          cc

-- Draining, with nothing offered: a frame is what the rule finds next in the held bytes; where none is left, the rule
-- finds none, and all that was held is skipped.
module _ (h : List ℕ → Head) (top : ℕ) (facts : Facts h top) (held : List ℕ) where
  module _ (k n : ℕ) (f : Frame) (behind : List ℕ) (e : look (at_close h) held ≡ ready k n f behind) where
    pub rule_drain : (at skipped : ℕ) → rule h 0 at skipped held ≡ found (at + k) (skipped + k) n f ∷ rule h 0 (at + (k + n)) 0 behind
    rule_drain at skipped = rule_drains h top facts held at skipped ∙ ap (drains h at skipped) e

    pub drain_adds_up : k + (n + length behind) ≡ length held
    drain_adds_up =
        let first = look_ready (at_close h) held k n f behind e in
        ap (λ (l : List ℕ). k + (n + length l)) first.rest ∙ frame_adds_up h top facts held k n f (closed_good (h (drop k held)) n f first.here)

    pub drain_above : 0 < n
    drain_above = (facts.fits (drop k held) n f (closed_good (h (drop k held)) n f (look_ready (at_close h) held k n f behind e).here)).0

  module _ (k : ℕ) (rest : List ℕ) (e : look (at_close h) held ≡ waiting k rest) where
    pub rule_drained : (at skipped : ℕ) → rule h 0 at skipped held ≡ []
    rule_drained at skipped = rule_drains h top facts held at skipped ∙ ap (drains h at skipped) e

    pub drained_adds_up : k ≡ length held
    drained_adds_up = (drained_all h held k rest e).0
