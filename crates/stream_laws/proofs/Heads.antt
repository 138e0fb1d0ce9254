-- What holds of the head of any list of bytes, in every family: what a good frame says of the bytes, that more bytes change
-- nothing decided, how many bytes decide, and that no good frame is missed.
-- A start is an SPE start or one between brackets, and from its course the rest follows, whatever the family.
-- Assumes nothing.
use Prim.Native.Nat.{ℕ, ◌<◌, ◌≤◌}
use Rattle.std.specs.Prelude.{Ok}
use mathlib.Core.Path.{◌≡◌, sym, ap, ◌∙◌}
use mathlib.Core.Bool.{Bool, true, false, cond}
use mathlib.Core.List.{List, [], ◌++◌}
use mathlib.Core.Logic.{◌⊎◌, ⊎_elim}
use native.Mathlib.Decide.{dec_lt}
use native.Mathlib.Omega.{arith}
use lib.Dec.{eqb}
use lib.ListN.{length, take}
use lib.Seq.{take-length, take-append_seam}
use Rattle.rules.specs.Codes.{packet_length}
use Rattle.rules.specs.Sentences.{shortest_sentence}
use Rattle.rules.specs.Messages.{shortest_message}
use Rattle.rules.specs.Answers.{messages, read_one}
use Rattle.rules.specs.declared.Frame.{Frame}
use Rattle.stream_rules.specs.Heads.{is_spe, shortest, shortest_frame, longest, length_at, Head, wait, bad, good, head}
use Rattle.stream_laws.specs.Settled.{settled}
use Rattle.stream_laws.proofs.Numbers.{Number, of_packets, of_brackets, number}
use Rattle.stream_laws.proofs.Course.{Settles, Course, waits, turns_bad, is_whole, head_of_decided, head_of_good}
use Rattle.stream_laws.proofs.PacketStarts as Packet
use Rattle.stream_laws.proofs.PacketCourse
use Rattle.stream_laws.proofs.BracketStarts as Bracket
use Rattle.stream_laws.proofs.BracketCourse

-- The course of any start.
course : (family : ℕ) (bs : List ℕ) → Course family bs
course family bs = by (number family)
  where
    by : Number family → Course family bs
    by (of_packets is) = PacketCourse.course family is bs
    by (of_brackets is) = BracketCourse.course family is bs

-- Every good frame at the head is found, so the length that is declared there hides none.
pub complete : (family : ℕ) (bs : List ℕ) (n : ℕ) (f : Frame) → n ≤ length bs → read_one family (take n bs) ≡ Ok f → head family bs ≡ good n f
complete family bs n f there = by (number family)
  where
    by : Number family → read_one family (take n bs) ≡ Ok f → head family bs ≡ good n f
    by (of_packets is) e = Packet.complete family is bs n f there e
    by (of_brackets is) e = Bracket.complete family is bs n f there e

-- No good frame is shorter than its family's shortest, and none than the shortest of all families.
at_least : (family : ℕ) (bs : List ℕ) (n : ℕ) (f : Frame) → n ≤ length bs → read_one family (take n bs) ≡ Ok f → shortest family ≤ n
at_least family bs n f there = by (number family)
  where
    by : Number family → read_one family (take n bs) ≡ Ok f → shortest family ≤ n
    by (of_packets is) e = rw is (Packet.at_least family is bs n f there e)
    by (of_brackets is) e = Bracket.at_least family is bs n f there e

pub shortest_of_all : (family : ℕ) → shortest_frame ≤ shortest family
shortest_of_all family = by (is_spe family) (eqb family messages)
  where
    by : (a b : Bool) → shortest_frame ≤ cond a packet_length (cond b shortest_message shortest_sentence)
    by true b = omega arith
    by false true = omega arith
    by false false = omega arith

-- A bad start, or an undecided one, is no frame: none of its fronts is good.
pub no_frame : (family : ℕ) (bs : List ℕ) → (head family bs ≡ bad) ⊎ (head family bs ≡ wait)
    → (n : ℕ) (f : Frame) → n ≤ length bs → read_one family (take n bs) ≡ Ok f → ⊥
no_frame family bs none n f there e =
    let found = complete family bs n f there e in
    let z : ◌≡◌ {A = ℕ} 0 1 = ⊎_elim (λ h. cc) (λ h. cc) none in
    omega arith

-- What settles a start settles the head of the whole.
module _ {family : ℕ} {bs : List ℕ} {s : ℕ} {h : Head} (k : Settles family bs s h) where
  whole : head family bs ≡ h
  whole = ap (head family) (sym (take-length bs)) ∙ k.after (length bs) k.there

  as_counted : Settles family bs (settled family bs) (head family bs)
  as_counted = rw (k.counted, whole) k

-- An undecided start was undecided all along, and is shorter than the longest frame.
pub record Waits (family : ℕ) (bs : List ℕ) : Type 0 where
  pub before : (m : ℕ) → head family (take m bs) ≡ wait
  pub short : length bs < longest family

pub waiting : (family : ℕ) (bs : List ℕ) → head family bs ≡ wait → Waits family bs
waiting family bs = by_course (course family bs)
  where
    by_course : Course family bs → head family bs ≡ wait → Waits family bs
    by_course (waits before short) e = record { before = before; short = short }
    by_course (turns_bad s k) e = let z : ◌≡◌ {A = ℕ} 0 1 = cc (whole k) in absurd (omega arith)
    by_course (is_whole n l k) e = absurd (head_of_decided n (read_one family (take n bs)) (sym (whole k) ∙ e))

-- A start that is decided is settled by as many bytes as `settled` says.
pub settling : (family : ℕ) (bs : List ℕ) → (head family bs ≡ wait → ⊥) → Settles family bs (settled family bs) (head family bs)
settling family bs decided = by_course (course family bs)
  where
    by_course : Course family bs → Settles family bs (settled family bs) (head family bs)
    by_course (waits before short) = absurd (decided (ap (head family) (sym (take-length bs)) ∙ before (length bs)))
    by_course (turns_bad s k) = as_counted k
    by_course (is_whole n l k) = as_counted k

-- With as many bytes as the longest frame has, a start is decided; with none it is not.
pub decided : (family : ℕ) (bs : List ℕ) → longest family ≤ length bs → head family bs ≡ wait → ⊥
decided family bs long e = omega (arith, (waiting family bs e).short)

pub empty : (family : ℕ) → head family [] ≡ wait
empty family = by_course (course family [])
  where
    by_course : Course family [] → head family [] ≡ wait
    by_course (waits before short) = before 0
    by_course (turns_bad s k) = absurd (omega (arith, k.some, k.there))
    by_course (is_whole n l k) = absurd (omega (arith, k.some, k.there))

-- More bytes change nothing decided.
pub stays : (family : ℕ) (bs cs : List ℕ) → (head family bs ≡ wait → ⊥) → head family (bs ++ cs) ≡ head family bs
stays family bs cs decided =
    let front : take (length bs) (bs ++ cs) ≡ bs = take-append_seam bs cs in
    let k = settling family (bs ++ cs) (λ e. decided (rw front at ((waiting family (bs ++ cs) e).before (length bs)))) in
    elim (dec_lt (length bs) (settled family (bs ++ cs))) [
      | yes fewer ↦ absurd (decided (rw front at (k.before (length bs) fewer)))
      | no enough ↦ sym (rw front at (k.after (length bs) (omega arith)))
    ]

-- What a good head says: the frame has as many bytes as the start declares, all of them there, no fewer than the shortest
-- frame has and no more than the longest; it is what the reader of one frame gives for them, and they are what settled it.
pub record GoodHead (family : ℕ) (bs : List ℕ) (n : ℕ) (f : Frame) : Type 0 where
  pub some : 0 < n
  pub there : n ≤ length bs
  pub long : shortest family ≤ n
  pub short : n ≤ longest family
  pub declared : n ≡ length_at family bs
  pub read : read_one family (take n bs) ≡ Ok f
  pub settles : settled family bs ≡ n

pub good_head : (family : ℕ) (bs : List ℕ) (n : ℕ) (f : Frame) → head family bs ≡ good n f → GoodHead family bs n f
good_head family bs n f = by_course (course family bs)
  where
    by_course : Course family bs → head family bs ≡ good n f → GoodHead family bs n f
    by_course (waits before short) e =
        let z : ◌≡◌ {A = ℕ} 0 1 = cc (take-length bs, before (length bs)) in
        absurd (omega arith)
    by_course (turns_bad s k) e = let z : ◌≡◌ {A = ℕ} 0 1 = cc (whole k) in absurd (omega arith)
    by_course (is_whole m l k) e =
        let h = head_of_good m n f (read_one family (take m bs)) (sym (whole k) ∙ e) in
        rw (← h.0)
        record {
          some = k.some;
          there = k.there;
          long = at_least family bs m f k.there h.1;
          short = k.short;
          declared = sym l;
          read = h.1;
          settles = k.counted;
        }
