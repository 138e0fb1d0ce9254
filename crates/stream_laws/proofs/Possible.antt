-- Sessions there are: whatever the cut of a stream, a session follows it, and it ends. With each frame that is handed out,
-- fewer bytes are held and left, and with each call that wants more, there is a piece less; then the reader is closed, and is
-- done after at most one call for each byte that it holds, and one. And every session that follows a cut is a session.
-- Assumes nothing.
use Prim.Native.Nat.{ℕ, zero, suc, ◌+◌, ◌-◌, ◌≤◌, ◌<◌}
use Rattle.rules.specs.declared.Refusal.{Refusal}
use Rattle.stream_rules.specs.declared.Progress.{Progress}
use Rattle.std.specs.Prelude.{Result}
use mathlib.Core.Path.{◌≡◌, refl, sym, ap, subst, ◌∙◌}
use mathlib.Core.Bool.{true}
use mathlib.Core.List.{List, [], ◌∷◌, ◌++◌}
use native.Mathlib.Omega.{arith}
use lib.ListN.{length, take, drop, length-drop}
use lib.Seq.{drop-length, drop-append-le, take-append_seam}
use Rattle.rules.specs.Answers.{is_family}
use Rattle.stream_rules.specs.Heads.{Head, longest, head, at_close}
use Rattle.stream_rules.specs.Rule.{Look, ready, waiting, look, Call, gives, wants, call}
use Rattle.stream_rules.specs.Streams.{wrap, holding, fed, shut, Feeds, Makes}
use Rattle.stream_rules.specs.declared.Reader.{Reader}
use Rattle.stream_rules.specs.declared.Fed.{Fed}
use Rattle.stream_rules.specs.declared.Turned.{Turned}
use Rattle.stream_laws.specs.Sessions.{Draining, Session, Following, to_offer, stream_of, taken_of}
use Rattle.stream_laws.proofs.Facts.{Facts, top_above}
use Rattle.stream_laws.proofs.Calls.{call_gives, gives_adds_up, gives_above, gives_short, call_wants, wants_adds_up, wants_short, drain_adds_up, drain_above}
use Rattle.stream_laws.proofs.Families.{facts}
use Rattle.stream_laws.proofs.States.{taken_within}
use Rattle.stream_laws.proofs.Saying.{feeds, shuts}
use Rattle.stream_laws.proofs.Sessions.{open_fed, closed_fed, fed_open, fed_closed, shut_holding, fresh_holding}

-- some draining of a closed reader that holds these bytes, and some session of an open one that follows a cut
abbrev Drains : ℕ → List ℕ → ℕ → ℕ → Type 0
Drains family bytes at skipped = (answers : List (Result Progress Refusal)) × Draining (holding family 1 bytes (wrap at) (wrap skipped)) answers

abbrev Runs : Reader → List (List ℕ) → Type 0
Runs r pieces = (answers : List (Result Progress Refusal)) × Following r pieces answers

-- a call, and a session from the state and the pieces that it leaves
run_call : (r : Reader) (piece : List ℕ) (pieces : List (List ℕ)) (a : Fed) → fed r piece ≡ a
    → Runs a.reader (to_offer (drop (taken_of a.answer) piece) pieces) → Runs r (piece ∷ pieces)
run_call r piece pieces a e (answers, session) =
    let now = fed r piece in
    let then = subst (λ (b : Fed). Following b.reader (to_offer (drop (taken_of b.answer) piece) pieces) answers) (sym e) session in
    (now.answer ∷ answers, Following.calls piece now (feeds refl) then)

-- what is left of a cut: its bytes, and its pieces
abbrev size : List (List ℕ) → ℕ
size [] = 0
size (piece ∷ pieces) = suc (length piece + size pieces)

to_offer_size : (rest : List ℕ) (pieces : List (List ℕ)) → size (to_offer rest pieces) ≤ suc (length rest + size pieces)
to_offer_size [] pieces = omega arith
to_offer_size (b ∷ rest) pieces = omega arith

module _ (family : ℕ) (known : is_family family ≡ true) (have : Facts (head family) (longest family)) where
  drain_next : (fuel : ℕ) → ((bytes : List ℕ) (at skipped : ℕ) → length bytes < fuel → length bytes < longest family → Drains family bytes at skipped)
      → (bytes : List ℕ) (at skipped : ℕ) → length bytes < suc fuel → length bytes < longest family
      → (l : Look) → look (at_close (head family)) bytes ≡ l
      → fed (holding family 1 bytes (wrap at) (wrap skipped)) [] ≡ closed_fed family at skipped l
      → Drains family bytes at skipped
  drain_next fuel more bytes at skipped p few (ready k n f behind) e s =
      let adds_up : k + (n + length behind) ≡ length bytes = drain_adds_up (head family) (longest family) have bytes k n f behind e in
      let above : 0 < n = drain_above (head family) (longest family) have bytes k n f behind e in
      let (answers, later) = more behind (at + (k + n)) 0 (omega arith) (omega arith) in
      let a : Fed = fed (holding family 1 bytes (wrap at) (wrap skipped)) [] in
      (a.answer ∷ answers, Draining.calls a (feeds refl) (subst (λ (b : Fed). Draining b.reader answers) (sym s) later))
  drain_next fuel more bytes at skipped p few (waiting k rest) e s =
      let a : Fed = fed (holding family 1 bytes (wrap at) (wrap skipped)) [] in
      (a.answer ∷ [], Draining.ends a 0 (feeds refl) (ap (λ (b : Fed). b.answer) s))

  drain : (fuel : ℕ) (bytes : List ℕ) (at skipped : ℕ) → length bytes < fuel → length bytes < longest family → Drains family bytes at skipped
  drain zero bytes at skipped p few = absurd (omega arith)
  drain (suc fuel) bytes at skipped p few =
      drain_next fuel (drain fuel) bytes at skipped p few (look (at_close (head family)) bytes) refl (fed_closed family known bytes few at skipped)

  -- Nothing is left: the close, and a draining.
  close : (bytes : List ℕ) (at skipped : ℕ) → length bytes < longest family → Runs (holding family 0 bytes (wrap at) (wrap skipped)) []
  close bytes at skipped few =
      let r : Reader = holding family 0 bytes (wrap at) (wrap skipped) in
      let (answers, later) = drain (suc (length bytes)) bytes at skipped (omega arith) few in
      (answers, Following.closes (shut r) (shuts refl) (subst (λ (t : Turned). Draining t.reader answers) (sym (shut_holding family known bytes few at skipped 0)) later))

  -- A piece is left: it is offered.
  offer : (fuel : ℕ)
      → ((bytes : List ℕ) (at skipped : ℕ) (pieces : List (List ℕ)) → length bytes + size pieces < fuel → length bytes < longest family → Runs (holding family 0 bytes (wrap at) (wrap skipped)) pieces)
      → (bytes : List ℕ) (at skipped : ℕ) (piece : List ℕ) (pieces : List (List ℕ)) → length bytes + size (piece ∷ pieces) < suc fuel → length bytes < longest family
      → (c : Call) → call (head family) bytes piece ≡ c
      → let a : Fed = open_fed family at skipped c in
      Runs a.reader (to_offer (drop (taken_of a.answer) piece) pieces)
  offer fuel more bytes at skipped piece pieces p few (gives taken k n f kept) e =
      let h : List ℕ → Head = head family in
      let top : ℕ = longest family in
      let adds_up : k + (n + length kept) ≡ length bytes + taken = gives_adds_up h top have bytes piece taken k n f kept e in
      let above : 0 < n = gives_above h top have bytes piece taken k n f kept e in
      let within : taken ≤ length piece = (call_gives h top have bytes piece taken k n f kept e).within in
      let rest : length (drop taken piece) ≡ length piece - taken = length-drop taken piece in
      let less = to_offer_size (drop taken piece) pieces in
      more kept (at + (k + n)) 0 (to_offer (drop taken piece) pieces) (omega arith) (gives_short h top have bytes piece taken k n f kept e few)
  offer fuel more bytes at skipped piece pieces p few (wants taken k kept) e =
      let h : List ℕ → Head = head family in
      let top : ℕ = longest family in
      let all : taken ≡ length piece = (call_wants h top have bytes piece taken k kept e).everything in
      let adds_up : k + length kept ≡ length bytes + taken = wants_adds_up h top have bytes piece taken k kept e in
      let none : drop taken piece ≡ [] = ap (λ (i : ℕ). drop i piece) all ∙ drop-length piece in
      subst
      (λ (l : List ℕ). Runs (holding family 0 kept (wrap (at + k)) (wrap (skipped + k))) (to_offer l pieces))
      (sym none)
      (more kept (at + k) (skipped + k) pieces (omega arith) (wants_short h top have bytes piece taken k kept e))

  follow : (fuel : ℕ) (bytes : List ℕ) (at skipped : ℕ) (pieces : List (List ℕ)) → length bytes + size pieces < fuel → length bytes < longest family
      → Runs (holding family 0 bytes (wrap at) (wrap skipped)) pieces
  follow zero bytes at skipped pieces p few = absurd (omega arith)
  follow (suc fuel) bytes at skipped [] p few = close bytes at skipped few
  follow (suc fuel) bytes at skipped (piece ∷ pieces) p few =
      let c : Call = call (head family) bytes piece in
      run_call (holding family 0 bytes (wrap at) (wrap skipped)) piece pieces (open_fed family at skipped c)
      (fed_open family known bytes few at skipped piece)
      (offer fuel (follow fuel) bytes at skipped piece pieces p few c refl)

-- Each piece is what its call offers of the whole stream, so a session that follows a cut is one of the stream.
left_of : (k : ℕ) (piece : List ℕ) (pieces : List (List ℕ)) → k ≤ length piece → stream_of (to_offer (drop k piece) pieces) ≡ drop k (piece ++ stream_of pieces)
left_of k piece pieces within = by_rest (drop k piece) ∙ sym (drop-append-le k piece (stream_of pieces) within)
  where
    by_rest : (rest : List ℕ) → stream_of (to_offer rest pieces) ≡ rest ++ stream_of pieces
    by_rest [] = refl
    by_rest (b ∷ rest) = refl

pub followed : {r : Reader} {pieces : List (List ℕ)} {answers : List (Result Progress Refusal)} → Following r pieces answers → (lengths : List ℕ) × Session r (stream_of pieces) lengths answers
followed {r} (Following.calls {pieces = pieces} {answers = answers} piece a e later) =
    let (lengths, session) = followed later in
    let whole : take (length piece) (piece ++ stream_of pieces) ≡ piece = take-append_seam piece (stream_of pieces) in
    let left = left_of (taken_of a.answer) piece pieces (taken_within r piece (facts r.family) a e) in
    (length piece ∷ lengths, Session.calls (length piece) a (subst (λ (l : List ℕ). Feeds r l a) (sym whole) e) (subst (λ (l : List ℕ). Session a.reader l lengths answers) left session))
followed (Following.closes t e later) = ([], Session.closes t e later)

-- For every cut of a stream there is a session that follows it.
pub possible : (family : ℕ) → is_family family ≡ true
    → (t : Turned) → Makes family t
    → (pieces : List (List ℕ)) → (answers : List (Result Progress Refusal)) × Following t.reader pieces answers
possible family known t e pieces =
    subst
    (λ (r : Reader). Runs r pieces)
    (sym (fresh_holding family known t e.answers))
    (follow family known (facts family) (suc (size pieces)) [] 0 0 pieces (omega arith) (top_above (head family) (longest family) (facts family)))
