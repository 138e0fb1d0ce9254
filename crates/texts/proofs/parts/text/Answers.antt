-- `texts::parts::text` meets its contract: where the bytes end before the place or before the n bytes do, what there is of them
-- is what `part` takes.
-- Assumes nothing.
use Rattle.std.proofs.Common.{◌≡◌, ℕ, ◌-◌, ◌<◌, ◌≤◌, List, [], length, take, drop, sym, ap, ◌∙◌, arith, length-drop, drop_of_length-le, take_all, le-ltb, lt-ltb}
use native.Mathlib.Nat.{add-sub_cancel_left}
use lib.Seq.{take-nil}
use Rattle.rules.specs.Bytes.{part}
use Rattle.frame_laws.proofs.Bytes.{front_stands, part_stands}
use Rattle.texts.proofs.parts.text.Goals as goal

-- the place is past the end
past : (s : List ℕ) (a n : ℕ) → length s ≤ a → [] ≡ part a n s
past s a n h = rw (drop_of_length-le s h) (sym (take-nil n))

-- the n bytes run past the end
short : (s : List ℕ) (a n : ℕ) → length s - a < n → take (length s - a) (drop a s) ≡ part a n s
short s a n h =
    take_all (length s - a) (drop a s) (omega (arith, length-drop a s))
    ∙ sym (take_all n (drop a s) (omega (arith, length-drop a s)))

pub returns-then-s-a : goal.returns-then-s-a
returns-then-s-a c =
    let a = c.before.before.args in
    record { content = past a.s.now a.a a.n c.before.if-s-a.true; stands = front_stands a.s.ref_ptr _ (rw (le-ltb a.a (length a.s.now) c.before.if-s-a.true)) }

pub returns-then-s-a-2 : goal.returns-then-s-a-2
returns-then-s-a-2 c =
    let a = c.before.before.before.args in
    record { content = short a.s.now a.a a.n c.before.if-s-a-2.true; stands = part_stands a.s.ref_ptr a.a _ (rw (lt-ltb a.a (length a.s.now) c.before.before.if-s-a.false)) }

pub returns : goal.returns
returns c =
    let a = c.before.before.before.args in
    record { content = ap (λ (k : ℕ). part a.a k a.s.now) (add-sub_cancel_left a.a a.n); stands = part_stands a.s.ref_ptr a.a _ (rw (lt-ltb a.a (length a.s.now) c.before.before.if-s-a.false)) }
