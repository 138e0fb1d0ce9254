-- The start of an SPE packet or report, families 1 and 3: the rules by which its head is decided, test by test, and that
-- every good frame follows them. One argument for both families, over the mark and what a start needs.
-- Each rule computes the definition by its tests; a bad start is bad since no good frame begins so. Assumes nothing.
use Prim.Native.Nat.{ℕ, zero, suc, ◌+◌, ◌/◌, ◌%◌, ◌<◌, ◌≤◌}
use Rattle.std.specs.Prelude.{Ok}
use mathlib.Core.Path.{◌≡◌, refl, sym, ap, ◌∙◌}
use mathlib.Core.Bool.{Bool, true, false, ◌&&◌, cond, and-false}
use mathlib.Core.List.{List, [], ◌∷◌, ◌++◌}
use mathlib.Core.Logic.{◌⊎◌, inl, inr, ⊎_elim}
use native.Mathlib.Decide.{dec_lt, ℕ_discrete}
use native.Mathlib.Omega.{arith}
use lib.Dec.{eqb, leb, ltb, lit≤}
use lib.ListN.{length, take, get_or, length-take}
use borrow.Author.Count.{below_none, below_more}
use borrow.Author.Tests.{eq-eqb, ne_eqb, lt-ltb, le-ltb, le-leb}
use Rattle.rules.specs.Bytes.{total}
use Rattle.rules.specs.Codes.{packet_length, packet, is_ack, is_command}
use Rattle.rules.specs.Status.{behind_checksum, report_length_in, line_end, comma_in, data_of, is_status, status_frame}
use Rattle.rules.specs.Answers.{read_one, read_family1, read_family3}
use Rattle.rules.specs.declared.Frame.{Frame}
use Rattle.frame_laws.proofs.Bytes.{tests, same_eq, cond_cases}
use Rattle.frame_laws.proofs.Comma.{at_most_one, comma_in_front, report-length}
use Rattle.frame_laws.proofs.Form.{in_frame}
use Rattle.stream_rules.specs.Heads.{is_spe, longest, mark_of, count_of, needs, spe_undecided, undecided, wait, bad, good, head_of, head, sentence_brackets, message_brackets, brackets_of, around}
use Rattle.stream_laws.specs.Settled.{spe_settled, settled}
use Rattle.stream_laws.proofs.Lists.{every_at, fails_at, front_at, front_and_rest}
use Rattle.stream_laws.proofs.Course.{passed, head_of_bad}
use Rattle.stream_laws.proofs.Numbers.{spe_cases}

-- A start needs no bytes or at least six, and at most as many as the longest frame has.
pub needs_six : (family : ℕ) (bs : List ℕ) → 0 < needs family bs → 6 ≤ needs family bs
needs_six family bs = by_tests (eqb (count_of bs) 0x01) (eqb family 1 && eqb (count_of bs) 0x43)
  where
    by_tests : (a b : Bool) → 0 < cond a 6 (cond b (report_length_in bs) 0) → 6 ≤ cond a 6 (cond b (report_length_in bs) 0)
    by_tests true b h = lit≤ tt
    by_tests false true h = omega arith
    by_tests false false h = absurd (omega arith)

pub needs_longest : (family : ℕ) (bs : List ℕ) → needs family bs ≤ longest family
needs_longest family bs = by_tests (eqb (count_of bs) 0x01) (eqb family 1) (eqb (count_of bs) 0x43) (eqb family 3)
  where
    others : (e : Bool) → let k = cond e message_brackets sentence_brackets in 6 ≤ around k k.most
    others true = lit≤ tt
    others false = lit≤ tt

    by_tests : (a b c d : Bool) → cond a 6 (cond (b && c) (report_length_in bs) 0) ≤ cond b 76 (cond d 6 (around (brackets_of family) (brackets_of family).most))
    by_tests true true c d = lit≤ tt
    by_tests true false c true = lit≤ tt
    by_tests true false c false = others (eqb family 4)
    by_tests false true true d = omega (arith, at_most_one bs)
    by_tests false true false d = lit≤ tt
    by_tests false false c d = omega arith

-- The count 01 needs six bytes, 43 in family 1 as many as the report's form has, and any other is not allowed.
pub needs_packet : (family : ℕ) (bs : List ℕ) → count_of bs ≡ 0x01 → needs family bs ≡ 6
needs_packet family bs e = rw e

pub needs_report : (family : ℕ) (bs : List ℕ) → family ≡ 1 → count_of bs ≡ 0x43 → needs family bs ≡ report_length_in bs
needs_report family bs one e = rw (one, e)

pub needs_none : (family : ℕ) (bs : List ℕ) → (count_of bs ≡ 0x01 → ⊥) → (family ≡ 1 → count_of bs ≡ 0x43 → ⊥) → needs family bs ≡ 0
needs_none family bs other none =
    rw (ne_eqb (count_of bs) 0x01 other)
    (elim (ℕ_discrete family 1) [
      | yes one ↦ rw (one, ne_eqb (count_of bs) 0x43 (none one))
      | no not-one ↦ rw (ne_eqb family 1 not-one)
    ])

-- the shortest frame of these families is no longer than the longest
pub packet_fits : (family : ℕ) → packet_length ≤ longest family
packet_fits family = needs_longest family (0 ∷ 0 ∷ 0 ∷ 0x01 ∷ [])

-- A front with its count needs what the whole needs; or both need more than the front has, as long as the byte is not there
-- that tells a report's form.
module _ (family m : ℕ) (bs : List ℕ) (there : 4 ≤ length (take m bs)) where
  abbrev front : List ℕ
  front = take m bs

  same_count : count_of front ≡ count_of bs
  same_count = front_at bs m 3 there

  front_needs : (needs family front ≡ needs family bs) ⊎ ((length front < needs family front) × (length front < needs family bs))
  front_needs =
      elim (dec_lt behind_checksum (length front)) [
        | yes told ↦ inl (rw (same_count, comma_in_front m bs (omega (arith, length-take m bs))))
        | no short ↦ rw same_count (by_tests (eqb (count_of bs) 0x01) (eqb family 1 && eqb (count_of bs) 0x43) (omega arith))
      ]
    where
      by_tests : (a b : Bool) → length front ≤ behind_checksum
          → (cond a 6 (cond b (report_length_in front) 0) ≡ cond a 6 (cond b (report_length_in bs) 0))
          ⊎ ((length front < cond a 6 (cond b (report_length_in front) 0)) × (length front < cond a 6 (cond b (report_length_in bs) 0)))
      by_tests true b short = inl refl
      by_tests false true short = inr (omega arith, omega arith)
      by_tests false false short = inl refl

  -- So a front that has as many bytes as it needs has as many as the whole needs; one with as many as the whole needs, needs
  -- no other number; and one with fewer than the whole needs has fewer than it needs itself.
  pub whole_needs : needs family front ≡ length front → needs family bs ≡ length front
  whole_needs e = ⊎_elim (λ same. sym same ∙ e) (λ more. absurd (omega (arith, more.0))) front_needs

  pub front_has_all : needs family bs ≤ length front → needs family front ≡ needs family bs
  front_has_all h = ⊎_elim (λ same. same) (λ more. absurd (omega (arith, more.1))) front_needs

  pub front_has_fewer : length front < needs family bs → length front < needs family front
  front_has_fewer h = ⊎_elim (λ same. omega arith) (λ more. more.0) front_needs

-- Three marks, a count, and as many bytes as it needs:
record Framed (family : ℕ) (bs : List ℕ) : Type 0 where
  count : ℕ
  rest : List ℕ
  parts : bs ≡ mark_of family ∷ mark_of family ∷ mark_of family ∷ count ∷ rest
  enough : needs family bs ≡ length bs

-- a packet with its count 01, a report with its count 43,
packet_framed : (family c : ℕ) (bs : List ℕ) → bs ≡ packet (mark_of family) c → Framed family bs
packet_framed family c bs e = record { count = 0x01; rest = c ∷ c ∷ []; parts = e; enough = needs_packet family bs (ap count_of e) ∙ sym (ap length e) }

report_framed : (bs : List ℕ) → is_status bs ≡ true → Framed 1 bs
unfolding status_frame
report_framed bs is-good =
    let d = data_of bs in
    let e = in_frame bs is-good in
    record {
      count = 0x43;
      rest = d ++ total d % 256 ∷ total d / 256 ∷ line_end (comma_in bs);
      parts = e;
      enough = needs_report 1 bs refl (ap count_of e) ∙ sym (report-length bs (ap length e));
    }

-- and so every good frame of these families.
reply_framed : (bs : List ℕ) (f : Frame) → read_one 1 bs ≡ Ok f → Framed 1 bs
unfolding read_one read_family1 is_ack
reply_framed bs f e =
    ⊎_elim
    (λ ack. let is-good = ack.0 in packet_framed 1 (get_or bs 4 0) bs (same_eq bs _ (search tests)))
    (λ other. report_framed bs (passed (is_status bs) _ _ f other.1).0)
    (cond_cases (is_ack bs) _ _ (Ok f) e)

command_framed : (bs : List ℕ) (f : Frame) → read_one 3 bs ≡ Ok f → Framed 3 bs
unfolding read_one read_family3 is_command
command_framed bs f e =
    let is-good = (passed (is_command bs) _ _ f e).0 in
    packet_framed 3 (get_or bs 4 0) bs (same_eq bs _ (search tests))

good_framed : (family : ℕ) (bs : List ℕ) (f : Frame) → is_spe family ≡ true → read_one family bs ≡ Ok f → Framed family bs
good_framed family bs f spe e =
    ⊎_elim
    (λ one. rw one (reply_framed bs f (rw one at e)))
    (λ three. rw three (command_framed bs f (rw three at e)))
    (spe_cases family spe)

-- The first k bytes are marks: for none, for one more, and for three, from what stands at each place.
abbrev pub Marks : ℕ → ℕ → List ℕ → Type 0
Marks family k bs = (i : ℕ) → i < k → get_or bs i 0 ≡ mark_of family

pub no_marks : (family : ℕ) (bs : List ℕ) → Marks family 0 bs
no_marks family bs = below_none (λ (i : ℕ). get_or bs i 0 ≡ mark_of family)

pub one_more : (family : ℕ) (bs : List ℕ) (k : ℕ) → Marks family k bs → get_or bs k 0 ≡ mark_of family → Marks family (k + 1) bs
one_more family bs k = below_more (λ (i : ℕ). get_or bs i 0 ≡ mark_of family) k

pub three_marks : (family : ℕ) (bs : List ℕ) → get_or bs 0 0 ≡ mark_of family → get_or bs 1 0 ≡ mark_of family → get_or bs 2 0 ≡ mark_of family
    → Marks family 3 bs
three_marks family bs m0 m1 m2 zero h = m0
three_marks family bs m0 m1 m2 (suc zero) h = m1
three_marks family bs m0 m1 m2 (suc (suc zero)) h = m2
three_marks family bs m0 m1 m2 (suc (suc (suc i))) h = absurd (omega arith)

module _ (family : ℕ) (spe : is_spe family ≡ true) (bs : List ℕ) where
  abbrev needed : ℕ
  needed = needs family bs

  -- a good frame at the head has the marks, and as many bytes as its start needs
  pub good_start : (n : ℕ) (f : Frame) → read_one family (take n bs) ≡ Ok f
      → Marks family 3 bs × (needed ≡ length (take n bs)) × (4 ≤ length (take n bs))
  good_start n f e =
      let c = good_framed family (take n bs) f spe e in
      let whole = front_and_rest bs n _ c.parts in
      let place : ℕ → List ℕ → ℕ = λ i l. get_or l i 0 in (
        three_marks family bs (ap (place 0) whole) (ap (place 1) whole) (ap (place 2) whole),
        whole_needs family n bs (omega (arith, ap length c.parts)) c.enough,
        omega (arith, ap length c.parts),
      )

  -- the head and its settling, by the definitions for these families
  head_by : (b : Bool) → spe_undecided family bs ≡ b → head family bs ≡ cond b wait (head_of needed (read_one family (take needed bs)))
  unfolding head undecided
  head_by b e = rw (spe, e)

  settled_by : settled family bs ≡ spe_settled family bs
  unfolding settled
  settled_by = rw spe

  -- a decided start is bad where no front of it is a good frame
  decided_bad : spe_undecided family bs ≡ false → ((n : ℕ) (f : Frame) → read_one family (take n bs) ≡ Ok f → ⊥) → head family bs ≡ bad
  decided_bad e never = head_by false e ∙ head_of_bad needed (read_one family (take needed bs)) (never needed)

  -- the test of a mark, by the byte
  is_mark : (k : ℕ) → get_or bs k 0 ≡ mark_of family → eqb (mark_of family) (get_or bs k 0) ≡ true
  is_mark k e = eq-eqb (mark_of family) (get_or bs k 0) (sym e)

  not_mark : (k : ℕ) → (get_or bs k 0 ≡ mark_of family → ⊥) → eqb (mark_of family) (get_or bs k 0) ≡ false
  not_mark k other = ne_eqb (mark_of family) (get_or bs k 0) (λ e. other (sym e))

  -- Fewer than four bytes, all of them marks: undecided.
  pub few_marks : length bs < 4 → Marks family (length bs) bs → head family bs ≡ wait
  unfolding spe_undecided
  few_marks few marks =
      head_by true (rw (lt-ltb (length bs) 4 few, every_at (eqb (mark_of family)) bs (λ i h. is_mark i (marks i h))))

  -- Among the first three a byte that is no mark: bad, settled by the first such byte.
  no_mark_settles : (k : ℕ) → k < 3 → Marks family k bs → (get_or bs k 0 ≡ mark_of family → ⊥) → spe_settled family bs ≡ k + 1
  unfolding spe_settled
  no_mark_settles zero low marks other = rw (not_mark 0 other)
  no_mark_settles (suc zero) low marks other = rw (is_mark 0 (marks 0 (omega arith)), not_mark 1 other)
  no_mark_settles (suc (suc zero)) low marks other = rw (is_mark 0 (marks 0 (omega arith)), is_mark 1 (marks 1 (omega arith)), not_mark 2 other)
  no_mark_settles (suc (suc (suc k))) low marks other = absurd (omega arith)

  pub no_mark : (k : ℕ) → k < 3 → k < length bs → Marks family k bs → (get_or bs k 0 ≡ mark_of family → ⊥)
      → (head family bs ≡ bad) × (settled family bs ≡ k + 1)
  unfolding spe_undecided
  no_mark k low there marks other =
      let in_3 : k < length (take 3 bs) = omega (arith, length-take 3 bs) in (
        decided_bad
            (rw (
              fails_at (eqb (mark_of family)) bs k there (not_mark k other),
              fails_at (eqb (mark_of family)) (take 3 bs) k in_3 (rw (front_at bs 3 k in_3) (not_mark k other)),
              and-false (ltb (length bs) 4),
              and-false (leb 4 (length bs)),
            ))
            (λ n f e. other ((good_start n f e).0 k low)),
        settled_by ∙ no_mark_settles k low marks other,
      )

  -- Three marks and a count:
  module _ (there : 4 ≤ length bs) (marks : Marks family 3 bs) where
    by_count : spe_undecided family bs ≡ ltb (length bs) needed
    unfolding spe_undecided
    by_count =
        rw (
          le-ltb (length bs) 4 there,
          le-leb 4 (length bs) there,
          every_at (eqb (mark_of family)) (take 3 bs) (λ i h. rw (front_at bs 3 i h) (is_mark i (marks i (omega (arith, length-take 3 bs))))),
        )

    count_settles : settled family bs ≡ cond (eqb needed 0) 4 needed
    unfolding spe_settled
    count_settles =
        settled_by ∙ rw (is_mark 0 (marks 0 (omega arith)), is_mark 1 (marks 1 (omega arith)), is_mark 2 (marks 2 (omega arith)))

    -- one that is not allowed: bad, settled by the count;
    pub no_count : needs family bs ≡ 0 → (head family bs ≡ bad) × (settled family bs ≡ 4)
    no_count none = (
      decided_bad (by_count ∙ le-ltb (length bs) needed (omega arith)) (λ n f e. let h = good_start n f e in omega arith),
      count_settles ∙ rw none,
    )

    -- one that needs n bytes, and fewer are there: undecided;
    pub bytes_missing : (n : ℕ) → needs family bs ≡ n → length bs < n → head family bs ≡ wait
    bytes_missing n is_n fewer = head_by true (by_count ∙ lt-ltb (length bs) needed (omega arith))

    -- and with all n there, the reader of one frame decides.
    pub all_there : (n : ℕ) → needs family bs ≡ n → 0 < n → n ≤ length bs
        → (head family bs ≡ head_of n (read_one family (take n bs))) × (settled family bs ≡ n)
    all_there n is_n some enough = (
      head_by false (by_count ∙ le-ltb (length bs) needed (omega arith)) ∙ ap (λ (k : ℕ). head_of k (read_one family (take k bs))) is_n,
      count_settles ∙ rw (is_n, ne_eqb n 0 (omega arith)),
    )

  -- A good frame has at least the six bytes of a packet with a code.
  pub at_least : (n : ℕ) (f : Frame) → n ≤ length bs → read_one family (take n bs) ≡ Ok f → packet_length ≤ n
  at_least n f there e =
      let h = good_start n f e in
      omega (arith, needs_six family bs (omega (arith, h.1, h.2)), h.1, length-take n bs)

  -- Every good frame at the head is found.
  pub complete : (n : ℕ) (f : Frame) → n ≤ length bs → read_one family (take n bs) ≡ Ok f → head family bs ≡ good n f
  complete n f there e =
      let h = good_start n f e in
      let size : length (take n bs) ≡ n = omega (arith, length-take n bs) in
      (all_there (omega arith) h.0 n (h.1 ∙ size) (omega arith) there).0 ∙ ap (head_of n) e
