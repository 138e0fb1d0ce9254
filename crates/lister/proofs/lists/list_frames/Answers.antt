-- `lister::lists::list_frames` meets its contract: its three tests are the refusals, in their order.
-- Assumes nothing.
use Prim.Native.Nat.{ℕ, ◌/◌, ◌≤◌, ◌<◌}
use Rattle.rules.specs.declared.Refusal.{Refusal}
use Rattle.rules.specs.declared.Refusal.TheVariants.{NoFamily, NoRoom, TooLong}
use Rattle.std.specs.Prelude.{Err, Ok, Result}
use native.Mathlib.Nat.{le-div_iff_mul-le, mul_comm}
use mathlib.Core.Path.{◌≡◌, sym, ap, ◌∙◌}
use mathlib.Core.Bool.{Bool, true, false, ◌&&◌, cond, not}
use mathlib.Core.List.{List, ◌++◌}
use native.Mathlib.Omega.{arith}
use borrow.Author.Tests.{le-leb, lt-leb}
use lib.Dec.{leb}
use lib.ListN.{length, drop}
use Rattle.rules.specs.Answers.{is_family}
use Rattle.stream_rules.specs.Heads.{shortest}
use Rattle.stream_rules.specs.Lister.{frames, starts_of, fits, Lists}
use Rattle.stream_laws.proofs.Saying.{lists}
use Rattle.lister.specs.Fills.{Fills}
use Rattle.stream_laws.proofs.Heads.{shortest_of_all}
use Rattle.search.proofs.Walk.{few_frames}
use Rattle.lister.proofs.lists.list_frames.Goals as goal

module _ (family : ℕ) (bs out : List ℕ) where
  abbrev room : Bool
  room = leb (length (frames family bs)) (length out)

  -- the answer and the list, by the three tests
  abbrev answer : Bool → Bool → Bool → (Result ℕ Refusal)
  answer f g r = cond (not f) (Err NoFamily) (cond (not g) (Err TooLong) (cond (not r) (Err NoRoom) (Ok (length (frames family bs)))))

  abbrev after : Bool → Bool → Bool → List ℕ
  after f g r = cond (f && g && r) (starts_of (frames family bs) ++ drop (length (frames family bs)) out) out

  no_family : is_family family ≡ false → Lists family bs out (Err NoFamily) out
  no_family e = lists (λ i. answer (sym e i) (fits bs) room) (λ i. after (sym e i) (fits bs) room)

  too_long : is_family family ≡ true → fits bs ≡ false → Lists family bs out (Err TooLong) out
  too_long e g = lists (λ i. answer (sym e i) (sym g i) room) (λ i. after (sym e i) (sym g i) room)

  no_room : is_family family ≡ true → fits bs ≡ true → room ≡ false → Lists family bs out (Err NoRoom) out
  no_room e g r = lists (λ i. answer (sym e i) (sym g i) (sym r i)) (λ i. after (sym e i) (sym g i) (sym r i))

  counts : is_family family ≡ true → fits bs ≡ true → room ≡ true → (n : ℕ) (left : List ℕ) → n ≡ length (frames family bs)
      → left ≡ starts_of (frames family bs) ++ drop (length (frames family bs)) out → Lists family bs out (Ok n) left
  counts e g r n left count content =
      lists (ap Ok count ∙ (λ i. answer (sym e i) (sym g i) (sym r i))) (content ∙ (λ i. after (sym e i) (sym g i) (sym r i)))

-- where as many places are lent as the bytes have room for the family's frames, there is room
some_bytes : (family : ℕ) → 0 < shortest family
some_bytes family = omega (arith, shortest_of_all family)

room_for_all : (family : ℕ) (bs out : List ℕ) → length bs / shortest family ≤ length out → length (frames family bs) ≤ length out
room_for_all family bs out h =
    let all = length (frames family bs) in
    let few : all ≤ length bs / shortest family = (le-div_iff_mul-le (some_bytes family)).1 (omega (arith, few_frames family bs, mul_comm all (shortest family))) in
    omega (arith, few, h)

-- where the tests of the family and of the length have been passed: what is filled in is the answer, where there is room
answered : (family : ℕ) (capture starts : List ℕ) → is_family family ≡ true → fits capture ≡ true → (n : ℕ) (after : List ℕ) → Fills family capture starts n after
    → length (frames family capture) ≤ length starts → Lists family capture starts (Ok n) after
answered family capture starts known fit n after done enough =
    counts family capture starts known fit (le-leb (length (frames family capture)) (length starts) enough) n after done.count (done.content enough)

pub returns-then-not-is_family : goal.returns-then-not-is_family
returns-then-not-is_family c = no_family _ _ _ (sym c.is_family.ensures ∙ c.if-not-is_family.true)

pub returns-then-capture-gt-LONGEST_CAPTURE : goal.returns-then-capture-gt-LONGEST_CAPTURE
returns-then-capture-gt-LONGEST_CAPTURE c =
    too_long _ _ _ (sym c.is_family.ensures ∙ c.if-not-is_family.false) (lt-leb (length c.args.capture.now) 65536 c.if-capture-gt-LONGEST_CAPTURE.true)

pub fill_starts-requires : goal.fill_starts-requires
fill_starts-requires c = (sym c.is_family.ensures ∙ c.if-not-is_family.false, c.if-capture-gt-LONGEST_CAPTURE.false)

pub returns-then-capture-shortest_frame : goal.returns-then-capture-shortest_frame
returns-then-capture-shortest_frame c =
    let enough = ap (λ (m : ℕ). length c.args.capture.now / m) c.shortest_frame.ensures in
    answered _ _ _ (sym c.is_family.ensures ∙ c.if-not-is_family.false) (le-leb (length c.args.capture.now) 65536 c.if-capture-gt-LONGEST_CAPTURE.false) _ _
    c.fill_starts.ensures
    (room_for_all c.args.family c.args.capture.now c.args.starts.now (omega (arith, enough, c.if-capture-shortest_frame.true)))

pub count_frames-requires : goal.count_frames-requires
count_frames-requires c = (sym c.is_family.ensures ∙ c.if-not-is_family.false, c.if-capture-gt-LONGEST_CAPTURE.false)

pub returns-then-starts-count_frames : goal.returns-then-starts-count_frames
returns-then-starts-count_frames c =
    no_room _ _ _ (sym c.is_family.ensures ∙ c.if-not-is_family.false) (le-leb (length c.args.capture.now) 65536 c.if-capture-gt-LONGEST_CAPTURE.false)
    (lt-leb (length (frames c.args.family c.args.capture.now)) (length c.args.starts.now) (omega (arith, c.if-starts-count_frames.true, c.count_frames.ensures)))

pub fill_starts-requires-2 : goal.fill_starts-requires-2
fill_starts-requires-2 c = (sym c.is_family.ensures ∙ c.if-not-is_family.false, c.if-capture-gt-LONGEST_CAPTURE.false)

pub returns : goal.returns
returns c =
    answered _ _ _ (sym c.is_family.ensures ∙ c.if-not-is_family.false) (le-leb (length c.args.capture.now) 65536 c.if-capture-gt-LONGEST_CAPTURE.false) _ _
    c.fill_starts-2.ensures (omega (arith, c.if-starts-count_frames.false, c.count_frames.ensures))
