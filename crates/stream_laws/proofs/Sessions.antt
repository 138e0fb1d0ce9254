-- Demand 3, for any family that has the four facts: whatever the lengths of its calls, a session on a fresh reader hands out
-- the frames that the rule finds in the whole stream. Each call leaves to the later ones exactly what the rule has still
-- to find, in a state that is made from the bytes it holds, the place of the first and the bytes skipped, both wrapped.
-- Assumes nothing.
use Prim.Native.Nat.{ℕ, ◌+◌, ◌≤◌, ◌<◌, min}
use Rattle.rules.specs.declared.Refusal.{Refusal}
use Rattle.stream_rules.specs.declared.Progress.{Progress}
use Rattle.stream_rules.specs.declared.Progress.TheVariants.{Done, More, Ready}
use Rattle.std.specs.Prelude.{Ok, Result}
use mathlib.Core.Path.{◌≡◌, refl, sym, ap, subst, subst₂, ◌∙◌}
use mathlib.Core.Bool.{true}
use mathlib.Core.List.{List, [], ◌∷◌, ◌++◌, map, append-nil}
use native.Mathlib.Nat.{add-zero}
use native.Mathlib.Omega.{arith}
use lib.ListN.{length, take, drop, length-take, length-drop, take-append-drop}
use lib.Seq.{drop-append-le, drop-length}
use Rattle.rules.specs.Answers.{is_family}
use Rattle.rules.specs.Bytes.{every}
use Rattle.rules.specs.declared.Frame.{Frame}
use Rattle.stream_rules.specs.Heads.{Head, longest, head, at_close}
use Rattle.stream_rules.specs.Rule.{Found, Look, ready, waiting, look, rule, Call, gives, wants, call}
use Rattle.stream_rules.specs.Streams.{wrap, holding, open_call, closed_call, fed, shut, fresh, Makes}
use Rattle.stream_rules.specs.declared.Reader.{Reader}
use Rattle.stream_rules.specs.declared.Fed.{Fed}
use Rattle.stream_rules.specs.declared.Turned.{Turned}
use Rattle.stream_laws.specs.Sessions.{Draining, Session, Tells, Demand3, taken_of, wrapped, InTime}
use Rattle.stream_laws.proofs.Facts.{Facts, top_above}
use Rattle.stream_laws.proofs.Looks.{found}
use Rattle.stream_laws.proofs.Calls.{call_gives, gives_adds_up, gives_in_time, gives_short, rule_gives, call_wants}
use Rattle.stream_laws.proofs.Calls.{wants_adds_up, wants_short, rule_wants, rule_drain, drain_adds_up, rule_drained, drained_adds_up}
use Rattle.stream_laws.proofs.States.{wrap_on, held_of_holding, open-call, closed-call, shut_call}

-- What a call of an open reader gives, when its first byte's place and the bytes skipped are these, not yet wrapped.
abbrev pub open_fed : ℕ → ℕ → ℕ → Call → Fed
open_fed family at skipped (gives taken k n f kept) = record {
  reader = holding family 0 kept (wrap (at + (k + n))) 0;
  answer = Ok (Ready (record { taken = taken; start = wrap (at + k); skipped = wrap (skipped + k); length = n; frame = f }));
}
open_fed family at skipped (wants taken k kept) = record { reader = holding family 0 kept (wrap (at + k)) (wrap (skipped + k)); answer = Ok (More taken) }

-- What a call gives that drains a closed one.
abbrev pub closed_fed : ℕ → ℕ → ℕ → Look → Fed
closed_fed family at skipped (ready k n f behind) = record {
  reader = holding family 1 behind (wrap (at + (k + n))) 0;
  answer = Ok (Ready (record { taken = 0; start = wrap (at + k); skipped = wrap (skipped + k); length = n; frame = f }));
}
closed_fed family at skipped (waiting k rest) = record { reader = holding family 1 [] (wrap (at + k)) (wrap (skipped + k)); answer = Ok (Done 0) }

open_wraps : (family : ℕ) (bytes : List ℕ) (at skipped : ℕ) (c : Call) → open_call (holding family 0 bytes (wrap at) (wrap skipped)) c ≡ open_fed family at skipped c
open_wraps family bytes at skipped (gives taken k n f kept) = rw (wrap_on at (k + n), wrap_on at k, wrap_on skipped k)
open_wraps family bytes at skipped (wants taken k kept) = rw (wrap_on at k, wrap_on skipped k)

closed_wraps : (family : ℕ) (bytes : List ℕ) (at skipped : ℕ) (l : Look) → closed_call (holding family 1 bytes (wrap at) (wrap skipped)) l ≡ closed_fed family at skipped l
closed_wraps family bytes at skipped (ready k n f behind) = rw (wrap_on at (k + n), wrap_on at k, wrap_on skipped k)
closed_wraps family bytes at skipped (waiting k rest) = rw (wrap_on at k, wrap_on skipped k)

module _ (family : ℕ) (known : is_family family ≡ true) (bytes : List ℕ) (few : length bytes < longest family) (at skipped : ℕ) where
  pub fed_open : (offered : List ℕ) → fed (holding family 0 bytes (wrap at) (wrap skipped)) offered ≡ open_fed family at skipped (call (head family) bytes offered)
  fed_open offered =
      let r : Reader = holding family 0 bytes (wrap at) (wrap skipped) in
      open-call r offered known (omega arith) refl
      ∙ ap (λ (l : List ℕ). open_call r (call (head family) l offered)) (held_of_holding family 0 bytes (wrap at) (wrap skipped))
      ∙ open_wraps family bytes at skipped (call (head family) bytes offered)

  pub fed_closed : fed (holding family 1 bytes (wrap at) (wrap skipped)) [] ≡ closed_fed family at skipped (look (at_close (head family)) bytes)
  fed_closed =
      let r : Reader = holding family 1 bytes (wrap at) (wrap skipped) in
      closed-call r known (omega arith) (λ e. omega arith)
      ∙ ap (λ (l : List ℕ). closed_call r (look (at_close (head family)) l)) (held_of_holding family 1 bytes (wrap at) (wrap skipped))
      ∙ closed_wraps family bytes at skipped (look (at_close (head family)) bytes)

  pub shut_holding : (closed : ℕ) → shut (holding family closed bytes (wrap at) (wrap skipped)) ≡ record { reader = holding family 1 bytes (wrap at) (wrap skipped); outcome = (Ok tt) }
  shut_holding closed =
      shut_call (holding family closed bytes (wrap at) (wrap skipped)) known (omega arith)
      ∙ ap (λ (l : List ℕ). record { reader = holding family 1 l (wrap at) (wrap skipped); outcome = (Ok tt) }) (held_of_holding family closed bytes (wrap at) (wrap skipped))

-- what a call that offered the first bytes of what was left, and took some of those, leaves
left_behind : (most taken : ℕ) (left : List ℕ) → taken ≤ length (take most left) → drop taken (take most left) ++ drop most left ≡ drop taken left
left_behind most taken left p = sym (drop-append-le taken (take most left) (drop most left) p) ∙ ap (drop taken) (take-append-drop most left)

taken_left : (most taken : ℕ) (left : List ℕ) → taken ≤ length (take most left) → taken + length (drop taken left) ≡ length left
taken_left most taken left p =
    let within : taken ≤ min most (length left) = rw (length-take most left) at p in
    rw (length-drop taken left) (omega arith)

-- What answers tell, from what those behind the first tell. The first hands out a frame:
abbrev handing_out : ℕ → Found → (Result Progress Refusal)
handing_out t f = Ok (Ready (record { taken = t; start = wrap f.start; skipped = wrap f.skipped; length = f.length; frame = f.frame }))

module _ (top before after t left left' : ℕ) (took : before + t ≡ after) (rest : t + left' ≡ left) (answers : List (Result Progress Refusal)) where
  tells_ready : (f : Found) (fs fs' : List Found) → fs ≡ f ∷ fs' → after ≤ f.start + top
      → Tells top after left' fs' answers
      → Tells top before left fs (handing_out t f ∷ answers)
  unfolding every
  tells_ready f fs fs' finds late s = record {
    list = ap (λ (l : List Found). wrapped f ∷ l) s.list ∙ ap (map wrapped) (sym finds);
    all_taken = ap (λ (i : ℕ). t + i) s.all_taken ∙ rest;
    in_time = subst (InTime top before (handing_out t f ∷ answers)) (sym finds) (omega arith, subst (λ (i : ℕ). InTime top i answers fs') (sym took) s.in_time);
    none_refused = s.none_refused;
  }

  -- or it wants more:
  tells_more : (fs fs' : List Found) → fs ≡ fs' → Tells top after left' fs' answers → Tells top before left fs (Ok (More t) ∷ answers)
  unfolding every
  tells_more fs fs' finds s = record {
    list = s.list ∙ ap (map wrapped) (sym finds);
    all_taken = ap (λ (i : ℕ). t + i) s.all_taken ∙ rest;
    in_time = subst₂ (λ (i : ℕ) (l : List Found). InTime top i answers l) (sym took) (sym finds) s.in_time;
    none_refused = s.none_refused;
  }

  -- or it says done, and there is no frame left:
  tells_done : (fs : List Found) → fs ≡ [] → Tells top after left' [] answers → Tells top before left fs (Ok (Done t) ∷ answers)
  unfolding every
  tells_done fs finds s = record {
    list = s.list ∙ ap (map wrapped) (sym finds);
    all_taken = ap (λ (i : ℕ). t + i) s.all_taken ∙ rest;
    in_time = subst₂ (λ (i : ℕ) (l : List Found). InTime top i answers l) (sym took) (sym finds) s.in_time;
    none_refused = s.none_refused;
  }

-- What is to be shown of the answers from a state on: where it holds these bytes, with the place of the first and the
-- bytes skipped before it, they tell what the rule has still to find.
abbrev OpenTells : ℕ → Reader → List ℕ → List (Result Progress Refusal) → Type 0
OpenTells family r left answers =
    (bytes : List ℕ) (at skipped : ℕ) → r ≡ holding family 0 bytes (wrap at) (wrap skipped) → length bytes < longest family
    → Tells (longest family) (at + length bytes) (length left) (rule (head family) 0 at skipped (bytes ++ left)) answers

abbrev ClosedTells : ℕ → Reader → List (Result Progress Refusal) → Type 0
ClosedTells family r answers =
    (bytes : List ℕ) (at skipped : ℕ) → r ≡ holding family 1 bytes (wrap at) (wrap skipped) → length bytes < longest family
    → Tells (longest family) (at + length bytes) 0 (rule (head family) 0 at skipped bytes) answers

module _ (family : ℕ) (known : is_family family ≡ true) (facts : Facts (head family) (longest family)) where
  -- A call of an open reader, by what it gives:
  call_tells : (left : List ℕ) (most : ℕ) (answers : List (Result Progress Refusal)) (bytes : List ℕ) (at skipped : ℕ) → length bytes < longest family
      → (c : Call) → call (head family) bytes (take most left) ≡ c
      → let a : Fed = open_fed family at skipped c in
      OpenTells family a.reader (drop (taken_of a.answer) left) answers
      → Tells (longest family) (at + length bytes) (length left) (rule (head family) 0 at skipped (bytes ++ left)) (a.answer ∷ answers)
  call_tells left most answers bytes at skipped few (gives taken k n f kept) e later =
      let h : List ℕ → Head = head family in
      let top : ℕ = longest family in
      let offered : List ℕ = take most left in
      let within : taken ≤ length offered = (call_gives h top facts bytes offered taken k n f kept e).within in
      let adds_up : k + (n + length kept) ≡ length bytes + taken = gives_adds_up h top facts bytes offered taken k n f kept e in
      let late : n + length kept ≤ top = gives_in_time h top facts bytes offered taken k n f kept e few in
      let rest : List Found = rule h 0 (at + (k + n)) 0 (kept ++ drop taken left) in
      let finds : rule h 0 at skipped (bytes ++ left) ≡ found (at + k) (skipped + k) n f ∷ rest =
      ap (λ (l : List ℕ). rule h 0 at skipped (bytes ++ l)) (sym (take-append-drop most left))
      ∙ rule_gives h top facts bytes offered taken k n f kept e at skipped (drop most left)
      ∙ ap (λ (l : List ℕ). found (at + k) (skipped + k) n f ∷ rule h 0 (at + (k + n)) 0 (kept ++ l)) (left_behind most taken left within) in
      tells_ready top
      (at + length bytes)
      (at + (k + n) + length kept)
      taken
      (length left)
      (length (drop taken left))
      (omega arith)
      (taken_left most taken left within)
      answers
      (found (at + k) (skipped + k) n f)
      (rule h 0 at skipped (bytes ++ left))
      rest
      finds
      (omega arith)
      (later kept (at + (k + n)) 0 refl (gives_short h top facts bytes offered taken k n f kept e few))
  call_tells left most answers bytes at skipped few (wants taken k kept) e later =
      let h : List ℕ → Head = head family in
      let top : ℕ = longest family in
      let offered : List ℕ = take most left in
      let everything : taken ≡ length offered = (call_wants h top facts bytes offered taken k kept e).everything in
      let adds_up : k + length kept ≡ length bytes + taken = wants_adds_up h top facts bytes offered taken k kept e in
      let none_left : drop taken offered ≡ [] = ap (λ (i : ℕ). drop i offered) everything ∙ drop-length offered in
      let finds : rule h 0 at skipped (bytes ++ left) ≡ rule h 0 (at + k) (skipped + k) (kept ++ drop taken left) =
      ap (λ (l : List ℕ). rule h 0 at skipped (bytes ++ l)) (sym (take-append-drop most left))
      ∙ rule_wants h top facts bytes offered taken k kept e at skipped (drop most left)
      ∙ ap (λ (l : List ℕ). rule h 0 (at + k) (skipped + k) (kept ++ l))
      (ap (λ (l : List ℕ). l ++ drop most left) (sym none_left) ∙ left_behind most taken left (omega arith)) in
      tells_more top
      (at + length bytes)
      (at + k + length kept)
      taken
      (length left)
      (length (drop taken left))
      (omega arith)
      (taken_left most taken left (omega arith))
      answers
      (rule h 0 at skipped (bytes ++ left))
      (rule h 0 (at + k) (skipped + k) (kept ++ drop taken left))
      finds
      (later kept (at + k) (skipped + k) refl (wants_short h top facts bytes offered taken k kept e))

  -- A call that drains a closed reader hands out a frame,
  drain_tells : (answers : List (Result Progress Refusal)) (bytes : List ℕ) (at skipped k n : ℕ) (f : Frame) (behind : List ℕ) → length bytes < longest family
      → look (at_close (head family)) bytes ≡ ready k n f behind
      → ClosedTells family (holding family 1 behind (wrap (at + (k + n))) 0) answers
      → Tells (longest family) (at + length bytes) 0 (rule (head family) 0 at skipped bytes) (handing_out 0 (found (at + k) (skipped + k) n f) ∷ answers)
  drain_tells answers bytes at skipped k n f behind few e later =
      let h : List ℕ → Head = head family in
      let top : ℕ = longest family in
      let adds_up : k + (n + length behind) ≡ length bytes = drain_adds_up h top facts bytes k n f behind e in
      tells_ready top
      (at + length bytes)
      (at + (k + n) + length behind)
      0
      0
      0
      (omega arith)
      refl
      answers
      (found (at + k) (skipped + k) n f)
      (rule h 0 at skipped bytes)
      (rule h 0 (at + (k + n)) 0 behind)
      (rule_drain h top facts bytes k n f behind e at skipped)
      (omega arith)
      (later behind (at + (k + n)) 0 refl (omega arith))

  -- or it is done, and then no frame is left.
  done_tells : (answers : List (Result Progress Refusal)) (bytes : List ℕ) (at skipped k : ℕ) (rest : List ℕ) → look (at_close (head family)) bytes ≡ waiting k rest
      → Tells (longest family) (at + k) 0 [] answers
      → Tells (longest family) (at + length bytes) 0 (rule (head family) 0 at skipped bytes) (Ok (Done 0) ∷ answers)
  done_tells answers bytes at skipped k rest e later =
      let h : List ℕ → Head = head family in
      let top : ℕ = longest family in
      let adds_up : k ≡ length bytes = drained_adds_up h top facts bytes k rest e in
      tells_done top
      (at + length bytes)
      (at + k)
      0
      0
      0
      (omega arith)
      refl
      answers
      (rule h 0 at skipped bytes)
      (rule_drained h top facts bytes k rest e at skipped)
      later

  -- All calls after the close, going on or ending there:
  closed_tells : (answers : List (Result Progress Refusal)) (bytes : List ℕ) (at skipped : ℕ) → length bytes < longest family
      → (l : Look) → look (at_close (head family)) bytes ≡ l
      → let a : Fed = closed_fed family at skipped l in
      ClosedTells family a.reader answers
      → Tells (longest family) (at + length bytes) 0 (rule (head family) 0 at skipped bytes) (a.answer ∷ answers)
  unfolding rule
  closed_tells answers bytes at skipped few (ready k n f behind) e later = drain_tells answers bytes at skipped k n f behind few e later
  closed_tells answers bytes at skipped few (waiting k rest) e later =
      done_tells answers bytes at skipped k rest e
      (subst (λ (i : ℕ). Tells (longest family) i 0 [] answers) (add-zero (at + k)) (later [] (at + k) (skipped + k) refl (omega arith)))

  end_tells : (bytes : List ℕ) (at skipped n : ℕ) (l : Look) → look (at_close (head family)) bytes ≡ l
      → let a : Fed = closed_fed family at skipped l in
      a.answer ≡ Ok (Done n)
      → Tells (longest family) (at + length bytes) 0 (rule (head family) 0 at skipped bytes) (a.answer ∷ [])
  unfolding every
  end_tells bytes at skipped n (ready k m f behind) e done = let z : ◌≡◌ {A = ℕ} 0 1 = cc in absurd (omega arith)
  end_tells bytes at skipped n (waiting k rest) e done =
      done_tells [] bytes at skipped k rest e (record { list = refl; all_taken = refl; in_time = tt; none_refused = refl })

  drained : {r : Reader} {answers : List (Result Progress Refusal)} → Draining r answers → ClosedTells family r answers
  drained (Draining.calls {answers = answers} a e later) bytes at skipped s few =
      subst
      (λ (b : Fed). ClosedTells family b.reader answers → Tells (longest family) (at + length bytes) 0 (rule (head family) 0 at skipped bytes) (b.answer ∷ answers))
      (sym (e.answers ∙ ap (λ (r : Reader). fed r []) s ∙ fed_closed family known bytes few at skipped))
      (closed_tells answers bytes at skipped few (look (at_close (head family)) bytes) refl)
      (λ bytes' at' skipped' s' few'. drained later bytes' at' skipped' s' few')
  drained (Draining.closes_again t e later) bytes at skipped s few =
      drained later bytes at skipped (ap (λ (u : Turned). u.reader) (e.answers ∙ ap shut s ∙ shut_holding family known bytes few at skipped 1)) few
  drained (Draining.ends a n e done) bytes at skipped s few =
      subst
      (λ (b : Fed). b.answer ≡ Ok (Done n) → Tells (longest family) (at + length bytes) 0 (rule (head family) 0 at skipped bytes) (b.answer ∷ []))
      (sym (e.answers ∙ ap (λ (r : Reader). fed r []) s ∙ fed_closed family known bytes few at skipped))
      (end_tells bytes at skipped n (look (at_close (head family)) bytes) refl)
      done

  -- All calls of a session:
  told : {r : Reader} {left lengths : List ℕ} {answers : List (Result Progress Refusal)} → Session r left lengths answers → OpenTells family r left answers
  told (Session.calls {left = left} {answers = answers} most a e later) bytes at skipped s few =
      subst
      (λ (b : Fed).
      OpenTells family b.reader (drop (taken_of b.answer) left) answers
      → Tells (longest family) (at + length bytes) (length left) (rule (head family) 0 at skipped (bytes ++ left)) (b.answer ∷ answers))
      (sym (e.answers ∙ ap (λ (r : Reader). fed r (take most left)) s ∙ fed_open family known bytes few at skipped (take most left)))
      (call_tells left most answers bytes at skipped few (call (head family) bytes (take most left)) refl)
      (λ bytes' at' skipped' s' few'. told later bytes' at' skipped' s' few')
  told (Session.closes {answers = answers} t e later) bytes at skipped s few =
      subst
      (λ (l : List ℕ). Tells (longest family) (at + length bytes) 0 (rule (head family) 0 at skipped l) answers)
      (sym (append-nil bytes))
      (drained later bytes at skipped (ap (λ (u : Turned). u.reader) (e.answers ∙ ap shut s ∙ shut_holding family known bytes few at skipped 0)) few)

pub fresh_holding : (family : ℕ) → is_family family ≡ true → (t : Turned) → t ≡ fresh family → t.reader ≡ holding family 0 [] 0 0
unfolding fresh
fresh_holding family known t e = ap (λ (u : Turned). u.reader) e ∙ rw known

-- Demand 3: take a fresh reader and a stream, cut into calls anywhere.
pub demand3 : (family : ℕ) → is_family family ≡ true → Facts (head family) (longest family)
    → (t : Turned) → Makes family t
    → (stream lengths : List ℕ) (answers : List (Result Progress Refusal)) → Session t.reader stream lengths answers → Demand3 family stream answers
demand3 family known facts t e stream lengths answers session =
    told family known facts session [] 0 0 (fresh_holding family known t e.answers) (top_above (head family) (longest family) facts)
