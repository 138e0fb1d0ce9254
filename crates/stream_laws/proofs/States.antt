-- The states of a reader, and its calls on any state: what refuses, what the unused places are, and that what a call does
-- to a state follows from the bytes that it holds. Each goes by the clauses of `fed` and `shut`. Assumes nothing.
use Prim.Native.Nat.{ℕ, suc, ◌+◌, ◌-◌, ◌^◌, ◌≤◌, ◌<◌}
use Rattle.stream_rules.specs.declared.Progress.TheVariants.{Done, Ready}
use Rattle.rules.specs.declared.Refusal.TheVariants.{HoldsTooMuch, NoFamily}
use Rattle.std.specs.Prelude.{Err, Ok}
use mathlib.Core.Path.{◌≡◌, refl, sym, ap, ap₂, ◌∙◌}
use mathlib.Core.Bool.{Bool, true, false, cond, true≢false, false≢true}
use mathlib.Core.List.{List, [], ◌∷◌, ◌++◌}
use native.Mathlib.Nat.{add-zero, mod-add-mod}
use native.Mathlib.Omega.{arith}
use borrow.Author.Tests.{le-leb, lt-leb, leb-true, leb-false, eq-eqb, ne_eqb, eqb-true, eqb-false}
use lib.Dec.{eqb, leb}
use lib.ListN.{length, replicate, length-append, length-replicate, length-take}
use lib.Seq.{take-append_seam}
use Rattle.rules.specs.Answers.{is_family}
use Rattle.stream_rules.specs.Heads.{sentence_brackets, message_brackets, around, longest, head, at_close}
use Rattle.stream_rules.specs.Rule.{Look, ready, waiting, look, Call, gives, wants, call}
use Rattle.stream_rules.specs.Streams.{wrap, holds, held_of, holding, refuse, go_on, open_call, closed_call, fed, shut, fresh, Feeds}
use Rattle.stream_rules.specs.declared.Reader.{Reader}
use Rattle.stream_rules.specs.declared.Ready as ReadyType
use Rattle.stream_rules.specs.declared.Fed.{Fed}
use Rattle.stream_rules.specs.declared.Turned.{Turned}
use Rattle.stream_laws.specs.Sessions.{taken_of, is_no_refusal}
use Rattle.stream_laws.proofs.Facts.{Facts, top_above}
use Rattle.stream_laws.proofs.Calls.{call_gives, call_wants, gives_adds_up, gives_above, gives_short, wants_short, drain_adds_up, drain_above}
use Rattle.rules.specs.declared.Refusal.TheVariants.{IsClosed}
use Rattle.rules.specs.declared.Refusal.{Refusal}

-- A count that has wrapped is counted on as if it had not.
pub wrap_on : (a b : ℕ) → wrap (wrap a + b) ≡ wrap (a + b)
wrap_on a b = mod-add-mod a (2 ^ 32) b

-- No family's longest frame has more than 134 bytes, so the held bytes have room.
pub longest_fits : (family : ℕ) → longest family ≤ 134
longest_fits family = go (eqb family 1) (eqb family 3) (eqb family 4)
  where
    go : (a b c : Bool) → let k = cond c message_brackets sentence_brackets in cond a 76 (cond b 6 (around k k.most)) ≤ 134
    go true b c = omega arith
    go false true c = omega arith
    go false false true = omega arith
    go false false false = omega arith

-- The state made from a list of bytes holds these bytes.
pub held_of_holding : (family closed : ℕ) (bytes : List ℕ) (at skipped : ℕ) → held_of (holding family closed bytes at skipped) ≡ bytes
held_of_holding family closed bytes at skipped = take-append_seam bytes (replicate (133 - length bytes) 0)

-- Refusals, in their order: 1, then 6, then 5. Each gives its number only, and the state as it was.
pub refused_1 : (r : Reader) (offered : List ℕ) → is_family r.family ≡ false → fed r offered ≡ refuse r NoFamily
unfolding fed
refused_1 r offered e = rw e

pub refused_6 : (r : Reader) (offered : List ℕ) → is_family r.family ≡ true → holds r.family < r.count → fed r offered ≡ refuse r HoldsTooMuch
unfolding fed
refused_6 r offered e p = rw (e, lt-leb r.count (holds r.family) p)

pub refused_5 : (r : Reader) (offered : List ℕ) → is_family r.family ≡ true → r.count ≤ holds r.family → (r.closed ≡ 0 → ⊥) → (length offered ≡ 0 → ⊥)
    → fed r offered ≡ refuse r IsClosed
unfolding fed
refused_5 r offered e p q s = rw (e, le-leb r.count (holds r.family) p, ne_eqb r.closed 0 q, ne_eqb (length offered) 0 s)

-- No other call is refused: an open reader looks at what it holds and takes, a closed one is drained.
pub open-call : (r : Reader) (offered : List ℕ) → is_family r.family ≡ true → r.count ≤ holds r.family → r.closed ≡ 0
    → fed r offered ≡ open_call r (call (head r.family) (held_of r) offered)
unfolding fed
open-call r offered e p q = rw (e, le-leb r.count (holds r.family) p, eq-eqb r.closed 0 q)

pub closed-call : (r : Reader) → is_family r.family ≡ true → r.count ≤ holds r.family → (r.closed ≡ 0 → ⊥)
    → fed r [] ≡ closed_call r (look (at_close (head r.family)) (held_of r))
unfolding fed
closed-call r e p q = rw (e, le-leb r.count (holds r.family) p, ne_eqb r.closed 0 q)

pub shut_1 : (r : Reader) → is_family r.family ≡ false → shut r ≡ record { reader = r; outcome = Err NoFamily }
unfolding shut
shut_1 r e = rw e

pub shut_6 : (r : Reader) → is_family r.family ≡ true → holds r.family < r.count → shut r ≡ record { reader = r; outcome = Err HoldsTooMuch }
unfolding shut
shut_6 r e p = rw (e, lt-leb r.count (holds r.family) p)

pub shut_call : (r : Reader) → is_family r.family ≡ true → r.count ≤ holds r.family
    → shut r ≡ record { reader = holding r.family 1 (held_of r) r.at r.skipped; outcome = (Ok tt) }
unfolding shut
shut_call r e p = rw (e, le-leb r.count (holds r.family) p)

pub fresh_1 : (family : ℕ) → is_family family ≡ false → fresh family ≡ record { reader = holding 0 0 [] 0 0; outcome = Err NoFamily }
unfolding fresh
fresh_1 family e = rw e

pub fresh_call : (family : ℕ) → is_family family ≡ true → fresh family ≡ record { reader = holding family 0 [] 0 0; outcome = (Ok tt) }
unfolding fresh
fresh_call family e = rw e

-- Every call is one of five: refused by 1, 6 or 5, or a call of an open reader, or one that drains a closed reader.
pub data CallKind (r : Reader) (offered : List ℕ) : Type 0 where
  no-family : is_family r.family ≡ false → CallKind r offered
  too_much : is_family r.family ≡ true → holds r.family < r.count → CallKind r offered
  offers_closed : is_family r.family ≡ true → r.count ≤ holds r.family → (r.closed ≡ 0 → ⊥) → (length offered ≡ 0 → ⊥) → CallKind r offered
  feeds : is_family r.family ≡ true → r.count ≤ holds r.family → r.closed ≡ 0 → CallKind r offered
  drains : is_family r.family ≡ true → r.count ≤ holds r.family → (r.closed ≡ 0 → ⊥) → offered ≡ [] → CallKind r offered

pub kind : (r : Reader) (offered : List ℕ) → CallKind r offered
kind r offered = go (is_family r.family) (leb r.count (holds r.family)) (eqb r.closed 0) offered refl refl refl refl
  where
    go : (a b c : Bool) (o : List ℕ) → is_family r.family ≡ a → leb r.count (holds r.family) ≡ b → eqb r.closed 0 ≡ c → offered ≡ o → CallKind r offered
    go false b c o p q s t = no-family p
    go true false c o p q s t = too_much p (leb-false r.count (holds r.family) q)
    go true true true o p q s t = feeds p (leb-true r.count (holds r.family) q) (eqb-true r.closed 0 s)
    go true true false [] p q s t = drains p (leb-true r.count (holds r.family) q) (eqb-false r.closed 0 s) t
    go true true false (x ∷ o) p q s t =
        offers_closed p (leb-true r.count (holds r.family) q) (eqb-false r.closed 0 s) (λ n. let m : suc (length o) ≡ 0 = sym (ap length t) ∙ n in omega arith)

-- What holds of a call's result, if it holds of each refusal, of an open reader's call and of a closed one's.
module _ (r : Reader) (offered : List ℕ) (P : Fed → Type 0)
    (on_refusal : (n : Refusal) → P (refuse r n))
    (on_open : is_family r.family ≡ true → r.count ≤ holds r.family → P (open_call r (call (head r.family) (held_of r) offered)))
    (on_closed : is_family r.family ≡ true → r.count ≤ holds r.family → (r.closed ≡ 0 → ⊥) → P (closed_call r (look (at_close (head r.family)) (held_of r)))) where
  by_kind : P (fed r offered)
  by_kind = go (kind r offered)
    where
      go : CallKind r offered → P (fed r offered)
      go (no-family p) = rw (refused_1 r offered p) (on_refusal NoFamily)
      go (too_much p q) = rw (refused_6 r offered p q) (on_refusal HoldsTooMuch)
      go (offers_closed p q s t) = rw (refused_5 r offered p q s t) (on_refusal IsClosed)
      go (feeds p q s) = rw (open-call r offered p q s) (on_open p q)
      go (drains p q s t) = rw (t, closed-call r p q s) (on_closed p q s)

-- A call that is no refusal by 1, 6 or 5 answers with a frame, more wanted, or done.
open_no_refusal : (r : Reader) (c : Call) → is_no_refusal (open_call r c).answer ≡ true
open_no_refusal r (gives taken k n f kept) = refl
open_no_refusal r (wants taken k kept) = refl

closed_no_refusal : (r : Reader) (l : Look) → is_no_refusal (closed_call r l).answer ≡ true
closed_no_refusal r (ready k n f behind) = refl
closed_no_refusal r (waiting k rest) = refl

-- A refusal leaves the state as it was.
pub refused_as_before : (r : Reader) (offered : List ℕ) → is_no_refusal (fed r offered).answer ≡ false → (fed r offered).reader ≡ r
refused_as_before r offered =
    by_kind r
    offered
    (λ a. is_no_refusal a.answer ≡ false → a.reader ≡ r)
    (λ n e. refl)
    (λ p q e. absurd (true≢false (sym (open_no_refusal r (call (head r.family) (held_of r) offered)) ∙ e)))
    (λ p q s e. absurd (true≢false (sym (closed_no_refusal r (look (at_close (head r.family)) (held_of r))) ∙ e)))

-- The unused places are zero in each state given back without a refusal.
abbrev pub Tidy : Reader → Type 0
Tidy r = r.held ≡ held_of r ++ replicate (133 - r.count) 0

pub holding_tidy : (family closed : ℕ) (bytes : List ℕ) (at skipped : ℕ) → Tidy (holding family closed bytes at skipped)
holding_tidy family closed bytes at skipped =
    ap (λ (l : List ℕ). l ++ replicate (133 - length bytes) 0) (sym (held_of_holding family closed bytes at skipped))

pub unused_zero : (r : Reader) (offered : List ℕ) → is_no_refusal (fed r offered).answer ≡ true → Tidy (fed r offered).reader
unused_zero r offered =
    by_kind r
    offered
    (λ a. is_no_refusal a.answer ≡ true → Tidy a.reader)
    (λ n e. absurd (false≢true e))
    (λ p q e. on_open (call (head r.family) (held_of r) offered))
    (λ p q s e. on_closed (look (at_close (head r.family)) (held_of r)))
  where
    on_open : (c : Call) → Tidy (open_call r c).reader
    on_open (gives taken k n f kept) = holding_tidy r.family r.closed kept (wrap (r.at + (k + n))) 0
    on_open (wants taken k kept) = holding_tidy r.family r.closed kept (wrap (r.at + k)) (wrap (r.skipped + k))

    on_closed : (l : Look) → Tidy (closed_call r l).reader
    on_closed (ready k n f behind) = holding_tidy r.family r.closed behind (wrap (r.at + (k + n))) 0
    on_closed (waiting k rest) = holding_tidy r.family r.closed [] (wrap (r.at + k)) (wrap (r.skipped + k))

-- Where the family has the four facts, such a state holds no more than the family allows, and has its 133 places.
pub record Fits (r : Reader) : Type 0 where
  pub count : r.count ≤ holds r.family
  pub places : length r.held ≡ 133

pub holding_fits : (family closed : ℕ) (bytes : List ℕ) (at skipped : ℕ) → length bytes < longest family → Fits (holding family closed bytes at skipped)
holding_fits family closed bytes at skipped p =
    let room : longest family ≤ 134 = longest_fits family in
    record {
      count = omega arith;
      places = length-append bytes (replicate (133 - length bytes) 0) ∙ ap (λ (n : ℕ). length bytes + n) (length-replicate (133 - length bytes) 0) ∙ omega arith;
    }

pub held_short : (r : Reader) → Facts (head r.family) (longest r.family) → r.count ≤ holds r.family → length (held_of r) < longest r.family
held_short r facts p =
    let above : 0 < longest r.family = top_above (head r.family) (longest r.family) facts in
    rw (length-take r.count r.held) (omega arith)

module _ (r : Reader) (offered : List ℕ) (facts : Facts (head r.family) (longest r.family)) where
  open_fits : length (held_of r) < longest r.family → (c : Call) → call (head r.family) (held_of r) offered ≡ c → Fits (open_call r c).reader
  open_fits p (gives taken k n f kept) e =
      holding_fits r.family r.closed kept (wrap (r.at + (k + n))) 0
      (gives_short (head r.family) (longest r.family) facts (held_of r) offered taken k n f kept e p)
  open_fits p (wants taken k kept) e =
      holding_fits r.family r.closed kept (wrap (r.at + k)) (wrap (r.skipped + k))
      (wants_short (head r.family) (longest r.family) facts (held_of r) offered taken k kept e)

  closed_fits : length (held_of r) < longest r.family → (l : Look) → look (at_close (head r.family)) (held_of r) ≡ l → Fits (closed_call r l).reader
  closed_fits p (ready k n f behind) e =
      let adds_up = drain_adds_up (head r.family) (longest r.family) facts (held_of r) k n f behind e in
      holding_fits r.family r.closed behind (wrap (r.at + (k + n))) 0 (omega arith)
  closed_fits p (waiting k rest) e = holding_fits r.family r.closed [] (wrap (r.at + k)) (wrap (r.skipped + k)) (omega arith)

  pub state_fits : is_no_refusal (fed r offered).answer ≡ true → Fits (fed r offered).reader
  state_fits =
      by_kind r
      offered
      (λ a. is_no_refusal a.answer ≡ true → Fits a.reader)
      (λ n e. absurd (false≢true e))
      (λ p q e. open_fits (held_short r facts q) (call (head r.family) (held_of r) offered) refl)
      (λ p q s e. closed_fits (held_short r facts q) (look (at_close (head r.family)) (held_of r)) refl)

-- A frame that is handed out leaves fewer bytes, held and still to be offered, than there were: so whoever offers the
-- untaken rest again comes to an end.
pub record Onward (r : Reader) (offered : List ℕ) (taken : ℕ) (after : Reader) : Type 0 where
  pub within : taken ≤ length offered
  pub fewer : after.count < r.count + taken

module _ (r : Reader) (offered : List ℕ) (facts : Facts (head r.family) (longest r.family)) where
  open_onward : (c : Call) → call (head r.family) (held_of r) offered ≡ c → (x : ReadyType.Ready) → (open_call r c).answer ≡ Ok (Ready x)
      → Onward r offered x.taken (open_call r c).reader
  open_onward (gives taken k n f kept) e x is =
      let same : taken ≡ x.taken = ap taken_of is in
      let adds_up = gives_adds_up (head r.family) (longest r.family) facts (held_of r) offered taken k n f kept e in
      let above = gives_above (head r.family) (longest r.family) facts (held_of r) offered taken k n f kept e in
      let held = length-take r.count r.held in
      let within : taken ≤ length offered = (call_gives (head r.family) (longest r.family) facts (held_of r) offered taken k n f kept e).within in
      record { within = omega (arith, same, within); fewer = omega (arith, same, adds_up, above, held) }
  open_onward (wants taken k kept) e x is = let z : ◌≡◌ {A = ℕ} 0 1 = cc in absurd (omega arith)

  closed_onward : (l : Look) → look (at_close (head r.family)) (held_of r) ≡ l → (x : ReadyType.Ready) → (closed_call r l).answer ≡ Ok (Ready x)
      → Onward r offered x.taken (closed_call r l).reader
  closed_onward (ready k n f behind) e x is =
      let same : 0 ≡ x.taken = ap taken_of is in
      let adds_up = drain_adds_up (head r.family) (longest r.family) facts (held_of r) k n f behind e in
      let above = drain_above (head r.family) (longest r.family) facts (held_of r) k n f behind e in
      let held = length-take r.count r.held in
      record { within = omega (arith, same); fewer = omega (arith, same, adds_up, above, held) }
  closed_onward (waiting k rest) e x is = let z : ◌≡◌ {A = ℕ} 0 1 = cc in absurd (omega arith)

  pub onward : (x : ReadyType.Ready) → (fed r offered).answer ≡ Ok (Ready x) → Onward r offered x.taken (fed r offered).reader
  onward x =
      by_kind r
      offered
      (λ a. a.answer ≡ Ok (Ready x) → Onward r offered x.taken a.reader)
      (λ n e. let z : ◌≡◌ {A = ℕ} 0 1 = cc in absurd (omega arith))
      (λ p q e. open_onward (call (head r.family) (held_of r) offered) refl x e)
      (λ p q s e. closed_onward (look (at_close (head r.family)) (held_of r)) refl x e)

-- No call takes more bytes than it is offered.
module _ (r : Reader) (offered : List ℕ) (facts : Facts (head r.family) (longest r.family)) where
  open_within : (c : Call) → call (head r.family) (held_of r) offered ≡ c → taken_of (open_call r c).answer ≤ length offered
  open_within (gives taken k n f kept) e = (call_gives (head r.family) (longest r.family) facts (held_of r) offered taken k n f kept e).within
  open_within (wants taken k kept) e = omega (arith, (call_wants (head r.family) (longest r.family) facts (held_of r) offered taken k kept e).everything)

  closed_within : (l : Look) → taken_of (closed_call r l).answer ≤ length offered
  closed_within (ready k n f behind) = omega arith
  closed_within (waiting k rest) = omega arith

  pub taken_within : (a : Fed) → Feeds r offered a → taken_of a.answer ≤ length offered
  taken_within a e =
      rw e.answers
      (by_kind r
      offered
      (λ b. taken_of b.answer ≤ length offered)
      (λ n. omega arith)
      (λ p q. open_within (call (head r.family) (held_of r) offered) refl)
      (λ p q s. closed_within (look (at_close (head r.family)) (held_of r))))

-- What they were before has no effect: a reader whose held places are others, but the same as far as they are used,
-- gives the same answer, and the same state where that is no refusal.
abbrev pub with_held : Reader → List ℕ → Reader
with_held r held = record { family = r.family; closed = r.closed; count = r.count; held = held; at = r.at; skipped = r.skipped }

pub record SameCall (a b : Fed) : Type 0 where
  pub answer : a.answer ≡ b.answer
  pub state : is_no_refusal a.answer ≡ true → a.reader ≡ b.reader

module _ (r : Reader) (held : List ℕ) (used : held_of (with_held r held) ≡ held_of r) (offered : List ℕ) where
  both_refused : (n : Refusal) → fed r offered ≡ refuse r n → fed (with_held r held) offered ≡ refuse (with_held r held) n
      → SameCall (fed r offered) (fed (with_held r held) offered)
  both_refused n e f = rw (e, f) (record { answer = refl; state = λ t. absurd (false≢true t) })

  both_taken : fed r offered ≡ fed (with_held r held) offered → SameCall (fed r offered) (fed (with_held r held) offered)
  both_taken e = record { answer = ap (λ (a : Fed). a.answer) e; state = λ t. ap (λ (a : Fed). a.reader) e }

  open_same : (c : Call) → open_call (with_held r held) c ≡ open_call r c
  open_same (gives taken k n f kept) = refl
  open_same (wants taken k kept) = refl

  closed_same : (l : Look) → closed_call (with_held r held) l ≡ closed_call r l
  closed_same (ready k n f behind) = refl
  closed_same (waiting k rest) = refl

  same_by_kind : CallKind r offered → SameCall (fed r offered) (fed (with_held r held) offered)
  same_by_kind (no-family p) = both_refused NoFamily (refused_1 r offered p) (refused_1 (with_held r held) offered p)
  same_by_kind (too_much p q) = both_refused HoldsTooMuch (refused_6 r offered p q) (refused_6 (with_held r held) offered p q)
  same_by_kind (offers_closed p q s t) = both_refused IsClosed (refused_5 r offered p q s t) (refused_5 (with_held r held) offered p q s t)
  same_by_kind (feeds p q s) =
      both_taken
      (open-call r offered p q s
      ∙ sym
      (open-call (with_held r held) offered p q s
      ∙ open_same (call (head r.family) (held_of (with_held r held)) offered)
      ∙ ap (λ (l : List ℕ). open_call r (call (head r.family) l offered)) used))
  same_by_kind (drains p q s t) =
      both_taken
      (rw t
      (closed-call r p q s
      ∙ sym
      (closed-call (with_held r held) p q s
      ∙ closed_same (look (at_close (head r.family)) (held_of (with_held r held)))
      ∙ ap (λ (l : List ℕ). closed_call r (look (at_close (head r.family)) l)) used)))

  pub unused_no_effect : SameCall (fed r offered) (fed (with_held r held) offered)
  unused_no_effect = same_by_kind (kind r offered)

-- Closing, where it is not refused: the unused places are zero, the state fits, and what they were before has no effect.
pub shut_tidy : (r : Reader) → is_family r.family ≡ true → r.count ≤ holds r.family → Tidy (shut r).reader
shut_tidy r p q = rw (shut_call r p q) (holding_tidy r.family 1 (held_of r) r.at r.skipped)

pub shut_fits : (r : Reader) → Facts (head r.family) (longest r.family) → is_family r.family ≡ true → r.count ≤ holds r.family
    → Fits (shut r).reader
shut_fits r facts p q = rw (shut_call r p q) (holding_fits r.family 1 (held_of r) r.at r.skipped (held_short r facts q))

pub shut_no_effect : (r : Reader) (held : List ℕ) → held_of (with_held r held) ≡ held_of r → is_family r.family ≡ true → r.count ≤ holds r.family
    → shut (with_held r held) ≡ shut r
shut_no_effect r held used p q =
    shut_call (with_held r held) p q
    ∙ ap (λ (l : List ℕ). record { reader = holding r.family 1 l r.at r.skipped; outcome = (Ok tt) }) used
    ∙ sym (shut_call r p q)

-- Closing twice is as once, whatever the state.
pub shut_twice : (r : Reader) → shut (shut r).reader ≡ shut r
shut_twice r = go (kind r [])
  where
    as_before : (t : Turned) → shut r ≡ t → t.reader ≡ r → shut (shut r).reader ≡ shut r
    as_before t e s = ap shut (ap (λ (u : Turned). u.reader) e ∙ s)

    accepted : is_family r.family ≡ true → r.count ≤ holds r.family → shut (shut r).reader ≡ shut r
    accepted p q =
        let bytes : List ℕ = held_of r in
        let few : length bytes ≤ holds r.family = rw (length-take r.count r.held) (omega arith) in
        ap (λ (t : Turned). shut t.reader) (shut_call r p q)
        ∙ shut_call (holding r.family 1 bytes r.at r.skipped) p few
        ∙ ap (λ (l : List ℕ). record { reader = holding r.family 1 l r.at r.skipped; outcome = (Ok tt) }) (held_of_holding r.family 1 bytes r.at r.skipped)
        ∙ sym (shut_call r p q)

    go : CallKind r [] → shut (shut r).reader ≡ shut r
    go (no-family p) = as_before (record { reader = r; outcome = Err NoFamily }) (shut_1 r p) refl
    go (too_much p q) = as_before (record { reader = r; outcome = Err HoldsTooMuch }) (shut_6 r p q) refl
    go (offers_closed p q s t) = accepted p q
    go (feeds p q s) = accepted p q
    go (drains p q s t) = accepted p q

-- Once a call answers that it is done, so does every later call that offers nothing, and the state stays as it is.
done_again : (r : Reader) → is_family r.family ≡ true → (r.closed ≡ 0 → ⊥) → (k : ℕ)
    → let s : Reader = (go_on r k [] (Done 0)).reader in fed s [] ≡ record { reader = s; answer = Ok (Done 0) }
unfolding look
done_again r p closed k =
    closed-call (go_on r k [] (Done 0)).reader p (omega arith) closed
    ∙ ap₂ (λ (at skipped : ℕ). record { reader = holding r.family r.closed [] at skipped; answer = Ok (Done 0) }) (again (r.at + k)) (again (r.skipped + k))
  where
    again : (a : ℕ) → wrap (wrap a + 0) ≡ wrap a
    again a = wrap_on a 0 ∙ ap wrap (add-zero a)

pub done_stays : (r : Reader) (offered : List ℕ) (n : ℕ) → (fed r offered).answer ≡ Ok (Done n)
    → fed (fed r offered).reader [] ≡ record { reader = (fed r offered).reader; answer = Ok (Done 0) }
done_stays r offered n =
    by_kind r
    offered
    (λ a. a.answer ≡ Ok (Done n) → fed a.reader [] ≡ record { reader = a.reader; answer = Ok (Done 0) })
    (λ m e. let z : ◌≡◌ {A = ℕ} 0 1 = cc in absurd (omega arith))
    (λ p q e. absurd (on_open (call (head r.family) (held_of r) offered) e))
    (λ p q s. on_closed p s (look (at_close (head r.family)) (held_of r)))
  where
    on_open : (c : Call) → (open_call r c).answer ≡ Ok (Done n) → ⊥
    on_open (gives taken k m f kept) e = let z : ◌≡◌ {A = ℕ} 0 1 = cc in omega arith
    on_open (wants taken k kept) e = let z : ◌≡◌ {A = ℕ} 0 1 = cc in omega arith

    on_closed : is_family r.family ≡ true → (r.closed ≡ 0 → ⊥) → (l : Look) → (closed_call r l).answer ≡ Ok (Done n)
        → fed (closed_call r l).reader [] ≡ record { reader = (closed_call r l).reader; answer = Ok (Done 0) }
    on_closed p s (ready k m f behind) e = let z : ◌≡◌ {A = ℕ} 0 1 = cc in absurd (omega arith)
    on_closed p s (waiting k rest) e = done_again r p s k

-- A reader of a family that holds no more than it may, open or closed. Calls that offer nothing to a closed one are not refused,
-- nor is closing, and it stays such a reader.
pub record Serves (closed : ℕ) (r : Reader) : Type 0 where
  pub known : is_family r.family ≡ true
  pub few : r.count ≤ holds r.family
  pub flag : r.closed ≡ closed

pub record Served (closed : ℕ) (a : Fed) : Type 0 where
  pub fine : is_no_refusal a.answer ≡ true
  pub serves : Serves closed a.reader

module _ (r : Reader) (facts : Facts (head r.family) (longest r.family)) where
  same_line : (offered : List ℕ) → (((fed r offered).reader.family ≡ r.family) × ((fed r offered).reader.closed ≡ r.closed))
  same_line offered =
      by_kind r
      offered
      (λ a. (a.reader.family ≡ r.family) × (a.reader.closed ≡ r.closed))
      (λ n. (refl, refl))
      (λ p q. on_open (call (head r.family) (held_of r) offered))
      (λ p q s. on_closed (look (at_close (head r.family)) (held_of r)))
    where
      on_open : (c : Call) → (((open_call r c).reader.family ≡ r.family) × ((open_call r c).reader.closed ≡ r.closed))
      on_open (gives taken k n f kept) = (refl, refl)
      on_open (wants taken k kept) = (refl, refl)

      on_closed : (l : Look) → (((closed_call r l).reader.family ≡ r.family) × ((closed_call r l).reader.closed ≡ r.closed))
      on_closed (ready k n f behind) = (refl, refl)
      on_closed (waiting k rest) = (refl, refl)

  stays_so : {closed : ℕ} (offered : List ℕ) → Serves closed r → is_no_refusal (fed r offered).answer ≡ true → Served closed (fed r offered)
  stays_so offered s fine =
      let line = same_line offered in
      record {
        fine = fine;
        serves = record {
          known = ap is_family line.0 ∙ s.known;
          few = (state_fits r offered facts fine).count;
          flag = line.1 ∙ s.flag;
        };
      }

  pub served_open : (offered : List ℕ) → Serves 0 r → Served 0 (fed r offered)
  served_open offered s =
      stays_so offered s
      (ap (λ (a : Fed). is_no_refusal a.answer) (open-call r offered s.known s.few s.flag)
      ∙ open_no_refusal r (call (head r.family) (held_of r) offered))

  pub served_closed : Serves 1 r → Served 1 (fed r [])
  served_closed s =
      stays_so [] s
      (ap (λ (a : Fed). is_no_refusal a.answer) (closed-call r s.known s.few (λ e. let z : ◌≡◌ {A = ℕ} 1 0 = sym s.flag ∙ e in omega (arith, z)))
      ∙ closed_no_refusal r (look (at_close (head r.family)) (held_of r)))

  pub served_shut : {closed : ℕ} → Serves closed r → ((shut r).outcome ≡ (Ok tt)) × Serves 1 (shut r).reader
  served_shut s =
      let e = shut_call r s.known s.few in
      (ap (λ (t : Turned). t.outcome) e, rw e (record { known = s.known; few = omega (arith, s.few, length-take r.count r.held); flag = refl }))

pub served_fresh : (family : ℕ) → is_family family ≡ true → ((fresh family).outcome ≡ (Ok tt)) × Serves 0 (fresh family).reader
served_fresh family known =
    let e = fresh_call family known in
    (ap (λ (t : Turned). t.outcome) e, rw e (record { known = known; few = omega arith; flag = refl }))
