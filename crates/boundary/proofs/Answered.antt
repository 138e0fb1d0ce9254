-- What a call answers whose number is 0: a frame that was read, or more wanted, or done, with counts that C can have; its row stands at
-- the front of the lent numbers. So two calls that leave the same numbers gave the same answer.
-- Assumes nothing.
use Prim.Native.Nat.{ℕ, ◌<◌}
use Rattle.rules.specs.declared.Refusal.{Refusal}
use Rattle.stream_rules.specs.declared.Progress.{Progress}
use Rattle.std.specs.Prelude.{Ok, Result}
use mathlib.Core.Path.{◌≡◌, refl, sym, ap, subst, ◌∙◌}
use mathlib.Core.Bool.{true}
use mathlib.Core.List.{List, ◌++◌}
use native.Mathlib.Omega.{arith}
use lib.IntN.{ℤ}
use lib.ListN.{length, take, drop}
use Rattle.rules.specs.Answers.{read_one}
use Rattle.rules.specs.declared.Frame.{Frame}
use Rattle.stream_rules.specs.Heads.{longest, head, at_close, good}
use Rattle.stream_rules.specs.Rule.{Look, ready, waiting, look, Call, gives, wants, call}
use Rattle.stream_rules.specs.Streams.{held_of, open_call, closed_call, refuse, fed}
use Rattle.stream_rules.specs.declared.Reader.{Reader}
use Rattle.stream_rules.specs.declared.Fed.{Fed}
use Rattle.stream_laws.specs.Sessions.{is_no_refusal, taken_of}
use Rattle.stream_laws.proofs.Families.{facts}
use Rattle.stream_laws.proofs.Heads.{good_head}
use Rattle.stream_laws.proofs.Looks.{look_ready, closed_good}
use Rattle.stream_laws.proofs.Calls.{gives_first}
use Rattle.stream_laws.proofs.States.{CallKind, kind, longest_fits, open-call, closed-call, refused_1, refused_6, refused_5}
use Rattle.rows.specs.Rows.{row_fed}
use Rattle.boundary.specs.RowSessions.{most_lent, RowCall}
use Rattle.boundary.proofs.RowSessions.{few, had}
use Rattle.boundary.proofs.Apart.{Lendable, WasRead, one_answer}
use Rattle.rules.specs.declared.Refusal.TheVariants.{HoldsTooMuch, IsClosed, NoFamily}
use Rattle.rules.specs.Refusals.{number_for}

-- A frame that stands at the head of some bytes was read from them, and is short.
record Read (family n : ℕ) (f : Frame) : Type 0 where
  bytes : List ℕ
  reads : read_one family bytes ≡ Ok f
  short : n < most_lent

read_there : (family : ℕ) (bs : List ℕ) (n : ℕ) (f : Frame) → head family bs ≡ good n f → Read family n f
read_there family bs n f e = record {
  bytes = take n bs;
  reads = (good_head family bs n f e).read;
  short = omega (arith, ((facts family).fits bs n f e).1, longest_fits family);
}

-- what is said of an answer
abbrev pub Fine : (Result Progress Refusal) → Type 0
Fine a = (is_no_refusal a ≡ true) × WasRead a × Lendable a

module _ (r : Reader) (offered : List ℕ) where
  open_fine : (c : Call) → call (head r.family) (held_of r) offered ≡ c → taken_of (open_call r c).answer < most_lent → Fine (open_call r c).answer
  open_fine (gives taken k n f kept) e small =
      let first = gives_first (head r.family) (longest r.family) (facts r.family) (held_of r) offered taken k n f kept e in
      let t = read_there r.family (drop k (held_of r ++ take taken offered)) n f first.here in
      (refl, (r.family, t.bytes, t.reads), (small, t.short))
  open_fine (wants taken k kept) e small = (refl, tt, small)

  closed_fine : (l : Look) → look (at_close (head r.family)) (held_of r) ≡ l → Fine (closed_call r l).answer
  closed_fine (ready k n f behind) e =
      let first = look_ready (at_close (head r.family)) (held_of r) k n f behind e in
      let t = read_there r.family (drop k (held_of r)) n f (closed_good (head r.family (drop k (held_of r))) n f first.here) in
      (refl, (r.family, t.bytes, t.reads), (omega arith, t.short))
  closed_fine (waiting k rest) e = (refl, tt, omega arith)

module _ {r : Reader} {offered : List ℕ} {number : ℕ} {after : Reader} {row : List ℤ} (c : RowCall r offered number after row) (accepted : number ≡ 0) where
  pub fine : Fine (fed r offered).answer
  fine = go (kind r offered)
    where
      refusal : (n : Refusal) → fed r offered ≡ refuse r n → number ≡ number_for n
      refusal n e = rw e at c.feeds.lays.answers

      go : CallKind r offered → Fine (fed r offered).answer
      go (CallKind.no-family p) = absurd (omega (arith, accepted, refusal NoFamily (refused_1 r offered p)))
      go (CallKind.too_much p q) = absurd (omega (arith, accepted, refusal HoldsTooMuch (refused_6 r offered p q)))
      go (CallKind.offers_closed p q s t) = absurd (omega (arith, accepted, refusal IsClosed (refused_5 r offered p q s t)))
      go (CallKind.feeds p q s) =
          let is = open-call r offered p q s in
          subst (λ (f : Fed). Fine f.answer) (sym is)
          (open_fine r offered (call (head r.family) (held_of r) offered) refl (subst (λ (f : Fed). taken_of f.answer < most_lent) is (few c)))
      go (CallKind.drains p q s t) =
          let is : fed r offered ≡ closed_call r (look (at_close (head r.family)) (held_of r)) = ap (fed r) t ∙ closed-call r p q s in
          subst (λ (f : Fed). Fine f.answer) (sym is) (closed_fine r offered (look (at_close (head r.family)) (held_of r)) refl)

  pub shows : take (length (row_fed (fed r offered).answer)) row ≡ row_fed (fed r offered).answer
  shows = (had c (fed r offered).answer refl fine.0).shown

-- Two calls that leave the same numbers gave the same answer.
pub rows_tell_apart : {r s : Reader} {offered given : List ℕ} {m n : ℕ} {after then : Reader} {row : List ℤ}
    → RowCall r offered m after row → RowCall s given n then row → m ≡ 0 → n ≡ 0
    → (fed r offered).answer ≡ (fed s given).answer
rows_tell_apart {r} {s} {offered} {given} {row = row} c d p q =
    one_answer row (fed r offered).answer (fed s given).answer (fine c p).1 (fine d q).1 (fine c p).2 (fine d q).2 (shows c p) (shows d q)
