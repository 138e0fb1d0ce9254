-- The steps of a run, as the two loops and the close between them make them. Assumes nothing.
use Rattle.std.proofs.Common.{ℕ, ◌≡◌, ◌-◌, ◌<◌, false, true, cond, eqb, nat_lt, false-eqb, true-eqb, lt-ltb, List, [], length, take, drop, Some, None, Result, Ok, Err, IfOk, refl, sym, subst, ap, ◌∙◌, arith, take_all, length-take, length-drop, drop_of_length-le, zero-le}
use Rattle.std.proofs.lemmas.List.{drop_min}
use Rattle.rules.specs.declared.Refusal.{Refusal}
use Rattle.stream_rules.specs.Streams.{fed, Feeds, shut, Shuts}
use Rattle.stream_rules.specs.declared.Progress.{Progress}
use Rattle.stream_rules.specs.declared.Progress.TheVariants.{Ready, More, Done}
use Rattle.stream_rules.specs.declared.Reader.{Reader}
use Rattle.stream_rules.specs.declared.Ready as ReadyType
use Rattle.stream_rules.specs.declared.Fed.{Fed}
use Rattle.stream_rules.specs.declared.Turned.{Turned}
use Rattle.stream.specs.Lent.{left, turned}
use Rattle.vectors.specs.Courses.{Course, piece, at_first, piece_taken, none_left, after_none, after, ready_in, all_offered, all_closed, over, Comes, here, calls, closes}

-- steps and those behind them
pub joined : {r y : Reader} {c d : Course} {z : Reader} {e : Course} → Comes r c y d → Comes y d z e → Comes r c z e
joined first here = first
joined first (calls more stays on) = calls (joined first more) stays on
joined first (closes more due) = closes (joined first more) due

-- the reader that a close leaves
pub shuts : {y z : Reader} {o : Result Unit Refusal} → Shuts y (turned z o) → z ≡ (shut y).reader
shuts s = ap (λ (t : Turned). t.reader) s.answers

-- a run in its three parts: all bytes are offered, the reader is closed, and it is drained
pub whole : {A E : Type 0} {r mid closed : Reader} (end : Reader) {stream : List ℕ} (answer : Result A E)
    → Comes r (at_first stream) mid all_offered → closed ≡ (shut mid).reader → IfOk answer (λ x. Comes closed all_closed end over)
    → IfOk answer (λ x. Comes r (at_first stream) end over)
whole {mid = mid} end (Ok u) first is drained =
    joined (closes first refl) (subst (λ (y : Reader). Comes y all_closed end over) is drained)
whole end (Err e) first is drained = drained

-- what follows an answer, by whether it hands out a frame
pub is_ready : (a : Result Progress Refusal) (x : ReadyType.Ready) → Some x ≡ ready_in a → a ≡ Ok (Ready x)
is_ready (Ok (Ready y)) x is = ap Ok (ap Ready (cc))
is_ready (Ok (More n)) x is = cc
is_ready (Ok (Done n)) x is = cc
is_ready (Err e) x is = cc

after-no_frame : (a : Result Progress Refusal) (d : Course) → None ≡ ready_in a → after d a ≡ after_none d
after-no_frame (Ok (Ready x)) d is = cc
after-no_frame (Ok (More n)) d is = refl
after-no_frame (Ok (Done n)) d is = refl
after-no_frame (Err e) d is = refl

-- one call more, by its answer
module _ (r y z : Reader) (c d : Course) (p : List ℕ) (a : Result Progress Refusal)
    (comes : Comes r c y d) (stays : d.closes ≡ false) (on : 0 < d.ends) (same : p ≡ take piece d.left) (feeds : Feeds y p (left z a)) where
  called : Comes r c z (after d a)
  called =
      subst
      (λ (f : Fed). Comes r c f.reader (after d f.answer))
      (sym (feeds.answers ∙ ap (fed y) same))
      (calls comes stays on)

  pub framed : (x : ReadyType.Ready) → Some x ≡ ready_in a → Comes r c z (record { left = drop x.taken d.left; ends = d.ends; closes = false })
  framed x is = subst (λ b. Comes r c z (after d b)) (is_ready a x is) called

  pub frameless : None ≡ ready_in a → Comes r c z (after_none d)
  frameless is = subst (λ e. Comes r c z e) (after-no_frame a d is) called

-- without a frame: while bytes are left the piece is taken, and then the reader is to be closed
pub piece_after : (rest : List ℕ) → false ≡ eqb (length rest) 0 → after_none (at_first rest) ≡ at_first (drop piece rest)
piece_after rest some =
    let more : 0 < length rest = omega (arith, false-eqb _ _ some) in
    ap (λ b. cond b (piece_taken (at_first rest)) (none_left (at_first rest))) (lt-ltb 0 (length rest) more)

pub none_after : (rest : List ℕ) → true ≡ eqb (length rest) 0 → after_none (at_first rest) ≡ all_offered
none_after rest none = ap (λ n. cond (nat_lt 0 n) (piece_taken (at_first rest)) (none_left (at_first rest))) (true-eqb _ _ none)

-- what is left behind so many bytes, as a slice has it
pub behind : (n : ℕ) (bytes : List ℕ) → take (length bytes - n) (drop n bytes) ≡ drop n bytes
behind n bytes = take_all (length bytes - n) (drop n bytes) (omega (arith, length-drop n bytes))

-- and behind a piece
pub piece_behind : (p bytes : List ℕ) → p ≡ take piece bytes → drop (length p) bytes ≡ drop piece bytes
piece_behind p bytes same = ap (λ n. drop n bytes) (ap length same ∙ length-take piece bytes) ∙ drop_min piece bytes

pub none_behind : (n : ℕ) → drop {A = ℕ} n [] ≡ []
none_behind n = drop_of_length-le [] {i = n} zero-le
