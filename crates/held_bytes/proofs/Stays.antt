-- A call leaves the family and the flag of a reader as they are, so what it leaves of the other parts is all that it leaves.
-- Assumes nothing.
use Prim.Native.Nat.{ℕ}
use mathlib.Core.Path.{◌≡◌, refl, sym, ap, ◌∙◌}
use mathlib.Core.Bool.{Bool, true, false, cond, not}
use mathlib.Core.List.{List}
use lib.Dec.{eqb, leb}
use lib.ListN.{length}
use Rattle.std.specs.Prelude.{Result}
use Rattle.rules.specs.Answers.{is_family}
use Rattle.rules.specs.declared.Refusal.{Refusal}
use Rattle.rules.specs.declared.Refusal.TheVariants.{NoFamily, IsClosed, HoldsTooMuch}
use Rattle.stream_rules.specs.Heads.{head, at_close}
use Rattle.stream_rules.specs.Rule.{Look, ready, waiting, look, Call, gives, wants, call}
use Rattle.stream_rules.specs.Streams.{holds, held_of, refuse, open_call, closed_call, fed, Feeds}
use Rattle.stream_rules.specs.declared.Reader.{Reader}
use Rattle.stream_rules.specs.declared.Progress.{Progress}
use Rattle.stream_rules.specs.declared.Fed.{Fed}
use Rattle.stream_laws.proofs.Saying.{feeds}
use Rattle.held_bytes.specs.declared.parts.Moved.{Moved}
use Rattle.held_bytes.specs.Moves.{fed_at}
use Rattle.held_bytes.specs.Places.{fed_parts}

-- the parts that a call may change
abbrev pub parts_left : Reader → Result Progress Refusal → Moved
parts_left s a = record { count = s.count; at = s.at; skipped = s.skipped; answer = a }

module _ (r : Reader) (offered : List ℕ) where
  -- the family and the flag are as they were
  abbrev Stays : Fed → Type 0
  Stays f = (f.reader.family ≡ r.family) × (f.reader.closed ≡ r.closed)

  open_stays : (c : Call) → Stays (open_call r c)
  open_stays (gives taken k n f kept) = (refl, refl)
  open_stays (wants taken k kept) = (refl, refl)

  closed_stays : (l : Look) → Stays (closed_call r l)
  closed_stays (ready k n f behind) = (refl, refl)
  closed_stays (waiting k rest) = (refl, refl)

  stays : Stays (fed r offered)
  unfolding fed
  stays = by_tests (is_family r.family) (leb r.count (holds r.family)) (eqb r.closed 0) (eqb (length offered) 0)
    where
      by_tests : (a b c d : Bool)
          → Stays (cond (not a) (refuse r NoFamily)
          (cond (not b) (refuse r HoldsTooMuch)
          (cond c (open_call r (call (head r.family) (held_of r) offered))
          (cond (not d) (refuse r IsClosed)
          (closed_call r (look (at_close (head r.family)) (held_of r)))))))
      by_tests false b c d = (refl, refl)
      by_tests true false c d = (refl, refl)
      by_tests true true true d = open_stays (call (head r.family) (held_of r) offered)
      by_tests true true false false = (refl, refl)
      by_tests true true false true = closed_stays (look (at_close (head r.family)) (held_of r))

  -- so the reader that is left is that of the old family and flag and of the parts that are left
  pub fed_in_parts : (s : Reader) (a : Result Progress Refusal) → Feeds r offered (fed_at s a) → Feeds r offered (fed_parts r.family r.closed s.held (parts_left s a))
  fed_in_parts s a p =
      let family : r.family ≡ s.family = sym (ap (λ (f : Fed). f.reader.family) p.answers ∙ stays.0) in
      let closed : r.closed ≡ s.closed = sym (ap (λ (f : Fed). f.reader.closed) p.answers ∙ stays.1) in
      feeds ((λ i. fed_at (record { family = family i; closed = closed i; count = s.count; held = s.held; at = s.at; skipped = s.skipped }) a) ∙ p.answers)
