-- What the answers of a stream and of the lister say in the terms of document 01, from what they are. Assumes nothing.
use Prim.Native.Nat.{ℕ}
use Rattle.rules.specs.declared.Refusal.{Refusal}
use Rattle.rules.specs.Refusals.{holds_too_much, is_closed, no_family, no_room, too_long}
use Rattle.rules.specs.declared.Refusal.TheVariants.{HoldsTooMuch, NoFamily, NoRoom, TooLong}
use Rattle.std.specs.Prelude.{Err, Ok, Result}
use mathlib.Core.Path.{◌≡◌, refl, ap, ◌∙◌}
use mathlib.Core.Bool.{Bool, true, false, cond, not}
use mathlib.Core.List.{List, [], ◌∷◌}
use lib.Dec.{eqb, leb}
use lib.IntN.{pos}
use lib.ListN.{length}
use Rattle.rules.specs.Answers.{starts_listed, accepted, no, yes, is_family}
use Rattle.stream_rules.specs.Heads.{head, at_close}
use Rattle.stream_rules.specs.Rule.{Look, ready, waiting, look, Call, gives, wants, call}
use Rattle.stream_rules.specs.Streams.{holds, held_of, holding, said_to_feed, said_to_turn, refuse, open_call, closed_call, says_open, says_closed, fed, shut, fresh, Feeds, Shuts, Makes}
use Rattle.stream_rules.specs.Lister.{frames, fits, listed, said_to_list, list_left, Lists}
use Rattle.stream_rules.specs.declared.Reader.{Reader}
use Rattle.stream_rules.specs.declared.Fed.{Fed}
use Rattle.stream_rules.specs.declared.Turned.{Turned}
use Rattle.rules.specs.declared.Refusal.TheVariants.{IsClosed}

-- a call, by its four tests
abbrev by_tests : Reader → Call → Look → Bool → Bool → Bool → Bool → Fed
by_tests r on left a b c d =
    cond (not a) (refuse r NoFamily)
    (cond (not b) (refuse r HoldsTooMuch)
    (cond c (open_call r on)
    (cond (not d) (refuse r IsClosed)
    (closed_call r left))))

open_says : (r : Reader) (c : Call) → said_to_feed (open_call r c).answer ≡ says_open r c
open_says r (gives taken k n f kept) = refl
open_says r (wants taken k kept) = refl

closed_says : (r : Reader) (l : Look) → said_to_feed (closed_call r l).answer ≡ says_closed r l
closed_says r (ready k n f behind) = refl
closed_says r (waiting k rest) = refl

call_says : (r : Reader) (on : Call) (left : Look) (a b c d : Bool)
    → said_to_feed (by_tests r on left a b c d).answer
    ≡ cond (not a) (no no_family)
    (cond (not b) (no holds_too_much)
    (cond c (says_open r on)
    (cond (not d) (no is_closed)
    (says_closed r left))))
call_says r on left false b c d = refl
call_says r on left true false c d = refl
call_says r on left true true true d = open_says r on
call_says r on left true true false false = refl
call_says r on left true true false true = closed_says r left

pub feeds : {r : Reader} {offered : List ℕ} {f : Fed} → f ≡ fed r offered → Feeds r offered f
unfolding fed
feeds {r} {offered} e = record {
  answers = e;
  says = ap (λ (x : Fed). said_to_feed x.answer) e
      ∙ call_says r (call (head r.family) (held_of r) offered) (look (at_close (head r.family)) (held_of r))
      (is_family r.family) (leb r.count (holds r.family)) (eqb r.closed 0) (eqb (length offered) 0);
}

abbrev turned : Reader → (Result Unit Refusal) → Turned
turned r o = record { reader = r; outcome = o }

pub shuts : {r : Reader} {t : Turned} → t ≡ shut r → Shuts r t
unfolding shut
shuts {r} e = record { answers = e; says = ap (λ (x : Turned). said_to_turn x.outcome) e ∙ case (is_family r.family) (leb r.count (holds r.family)) }
  where
    case : (a b : Bool)
        → let closed : Turned = turned (holding r.family 1 (held_of r) r.at r.skipped) (Ok tt) in
        said_to_turn (cond (not a) (turned r (Err NoFamily)) (cond (not b) (turned r (Err HoldsTooMuch)) closed)).outcome
        ≡ cond (not a) (no no_family) (cond (not b) (no holds_too_much) (yes accepted []))
    case false b = refl
    case true false = refl
    case true true = refl

pub makes : {family : ℕ} {t : Turned} → t ≡ fresh family → Makes family t
unfolding fresh
makes {family} e = record { answers = e; says = ap (λ (x : Turned). said_to_turn x.outcome) e ∙ case (is_family family) }
  where
    case : (a : Bool)
        → said_to_turn (cond a (turned (holding family 0 [] 0 0) (Ok tt)) (turned (holding 0 0 [] 0 0) (Err NoFamily))).outcome
        ≡ cond (not a) (no no_family) (yes accepted [])
    case true = refl
    case false = refl

pub lists : {family : ℕ} {capture out : List ℕ} {answer : (Result ℕ Refusal)} {after : List ℕ} → answer ≡ listed family capture out → after ≡ list_left family capture out
    → Lists family capture out answer after
lists {family} {capture} {out} e left = record {
  answers = e;
  says = ap said_to_list e ∙ case (is_family family) (fits capture) (leb (length (frames family capture)) (length out));
  content = left;
}
  where
    case : (a b c : Bool)
        → said_to_list (cond (not a) (Err NoFamily) (cond (not b) (Err TooLong) (cond (not c) (Err NoRoom) (Ok (length (frames family capture))))))
        ≡ cond (not a) (no no_family) (cond (not b) (no too_long) (cond (not c) (no no_room) (yes starts_listed (pos (length (frames family capture)) ∷ []))))
    case false b c = refl
    case true false c = refl
    case true true false = refl
    case true true true = refl
