-- What is seen of a start, from what stands at its head, for the code that examines it; and back, for the code that goes
-- by what was seen.
-- By the tests of the definitions: a good frame is settled by as many bytes as it has. Assumes nothing.
use Prim.Native.Nat.{ℕ, ◌+◌, ◌≤◌, ◌<◌}
use Rattle.std.specs.Prelude.{Ok}
use mathlib.Core.Path.{◌≡◌, refl, sym, ap, subst⁻¹, ◌∙◌}
use mathlib.Core.Bool.{Bool, true, false, ◌&&◌, cond, not, and-false, false≢true}
use mathlib.Core.List.{List}
use mathlib.Core.Logic.{⊎_elim}
use native.Mathlib.Decide.{dec_lt, ℕ_discrete}
use native.Mathlib.Omega.{arith}
use borrow.Author.Tests.{eq-eqb, ne_eqb, eqb-true}
use lib.Dec.{eqb, lit≤}
use lib.ListN.{length, take, get_or}
use Rattle.rules.specs.Codes.{packet_length}
use Rattle.rules.specs.Answers.{read_one}
use Rattle.rules.specs.declared.Frame.{Frame}
use Rattle.frame_laws.proofs.Bytes.{answer, both_left, both_pass}
use Rattle.stream_rules.specs.Heads.{is_spe, brackets_of, around, wait, bad, good, mark_of, needs, length_at, undecided as waits, head_of, head}
use Rattle.stream_rules.specs.declared.Brackets.{Brackets}
use Rattle.stream_laws.specs.Settled.{spe_settled, settled}
use Rattle.stream_laws.proofs.Course.{head_of_decided, head_of_bad}
use Rattle.stream_laws.proofs.Heads.{GoodHead, good_head}
use Rattle.stream_laws.proofs.Numbers.{Number, of_packets, of_brackets, number}
use Rattle.stream_laws.proofs.PacketStarts.{Marks, few_marks, needs_six}
use Rattle.stream_laws.proofs.Runs.{run}
use Rattle.stream_laws.proofs.Bracketed.{Bracketed, length_is}
use Rattle.stream_laws.proofs.BracketStarts.{too_long, inner_open, not_closed, tail_missing, all_there}
use Rattle.search.specs.Seen.{is_closed_off, seen}
use Rattle.search.specs.declared.heads.Seen as SeenType
use Rattle.search.specs.declared.heads.Seen.TheVariants.{Whole, Bad, Undecided}

-- the definition's two tests
abbrev by : Bool → Bool → ℕ → ℕ → SeenType.Seen
by waiting whole n d = cond waiting Undecided (cond whole (Whole n) (Bad d))

is_undecided : (u w : Bool) (n d : ℕ) → by u w n d ≡ Undecided → u ≡ true
is_undecided true w n d e = refl
is_undecided false true n d e = cc
is_undecided false false n d e = cc

is_bad : (u w : Bool) (n d k : ℕ) → by u w n d ≡ Bad k → (u ≡ false) × ((w ≡ false) × (d ≡ k))
is_bad true w n d k e = (cc, (cc, cc))
is_bad false true n d k e = (refl, (cc, cc))
is_bad false false n d k e = (refl, (refl, cc))

is_whole : (u w : Bool) (n d k : ℕ) → by u w n d ≡ Whole k → (u ≡ false) × ((w ≡ true) × (n ≡ k))
is_whole true w n d k e = (cc, (cc, cc))
is_whole false true n d k e = (refl, (refl, cc))
is_whole false false n d k e = (refl, (cc, cc))

module _ (family : ℕ) (bs : List ℕ) where
  abbrev declared : ℕ
  declared = length_at family bs

  -- the head and what is seen, by the first test
  head_by : (b : Bool) → waits family bs ≡ b → head family bs ≡ cond b wait (head_of declared (read_one family (take declared bs)))
  unfolding head
  head_by b e = rw e

  abbrev whole_test : Bool
  whole_test = eqb (settled family bs) declared && is_closed_off family bs

  seen_by : (u w : Bool) → waits family bs ≡ u → whole_test ≡ w → by u w declared (settled family bs) ≡ seen family bs
  unfolding seen
  seen_by u w is-u is-w = λ i. by (sym is-u i) (sym is-w i) declared (settled family bs)

  -- a head that waits is undecided, and no other
  waiting : head family bs ≡ wait → waits family bs ≡ true
  waiting e =
      ⊎_elim (λ yes. yes) (λ no. absurd (head_of_decided declared (read_one family (take declared bs)) (sym (head_by false no) ∙ e))) (answer (waits family bs))

  decided : (head family bs ≡ wait → ⊥) → waits family bs ≡ false
  decided never = ⊎_elim (λ yes. absurd (never (head_by true yes))) (λ no. no) (answer (waits family bs))

  pub undecided : head family bs ≡ wait → Undecided ≡ seen family bs
  undecided e = seen_by true _ (waiting e) refl

  no_whole : (d : ℕ) → (head family bs ≡ bad) × (settled family bs ≡ d) → whole_test ≡ false → Bad d ≡ seen family bs
  no_whole d e other = ap Bad (sym e.1) ∙ seen_by false false (decided (λ w. let z : ◌≡◌ {A = ℕ} 0 1 = cc e.0 in omega arith)) other

  -- a bad start that was settled by another number of bytes, or that is not closed off
  pub bad_start : (d : ℕ) → (head family bs ≡ bad) × (settled family bs ≡ d) → (d ≡ declared → ⊥) → Bad d ≡ seen family bs
  bad_start d e other = no_whole d e (rw (ne_eqb (settled family bs) declared (λ same. other (sym e.1 ∙ same))))

  pub bad_unclosed : (d : ℕ) → (head family bs ≡ bad) × (settled family bs ≡ d) → is_closed_off family bs ≡ false → Bad d ≡ seen family bs
  bad_unclosed d e unclosed = no_whole d e (rw unclosed (and-false (eqb (settled family bs) declared)))

  pub by_whole : (n : ℕ) → (head family bs ≡ head_of n (read_one family (take n bs))) × (settled family bs ≡ n) → declared ≡ n → is_closed_off family bs ≡ true
      → Whole n ≡ seen family bs
  by_whole n e is closed =
      ap Whole (sym is)
      ∙ seen_by false true
      (decided (λ w. head_of_decided n (read_one family (take n bs)) (sym e.0 ∙ w)))
      (both_pass _ _ (eq-eqb (settled family bs) declared (e.1 ∙ sym is)) closed)

  -- a good frame was settled by all its bytes, and is closed off
  good_passes : (f : Frame) → head family bs ≡ good declared f → whole_test ≡ true
  good_passes f is =
      let g : GoodHead family bs declared f = good_head family bs declared f is in
      both_pass _ _ (eq-eqb (settled family bs) declared g.settles) (closed_off (number family) f g.read)
    where
      closed_off : Number family → (f : Frame) → read_one family (take declared bs) ≡ Ok f → is_closed_off family bs ≡ true
      closed_off (of_packets spe) f e = rw spe
      closed_off (of_brackets k) f e = let h = k.good_start bs declared f e in rw k.no_spe (eq-eqb _ _ h.closes)

  -- and back: what stands at the head, from what is seen
  pub seen_undecided : seen family bs ≡ Undecided → head family bs ≡ wait
  unfolding seen
  seen_undecided e = head_by true (is_undecided (waits family bs) whole_test declared (settled family bs) e)

  pub seen_bad : (d : ℕ) → seen family bs ≡ Bad d → (head family bs ≡ bad) × (settled family bs ≡ d)
  unfolding seen
  seen_bad d e =
      let h = is_bad (waits family bs) whole_test declared (settled family bs) d e in
      let at = head_by false h.0 in (
        at ∙ head_of_bad declared (read_one family (take declared bs)) (λ f read. false≢true (sym h.1.0 ∙ good_passes f (at ∙ ap (head_of declared) read))),
        h.1.1,
      )

  pub seen_whole : (n : ℕ) → seen family bs ≡ Whole n → (head family bs ≡ head_of n (read_one family (take n bs))) × (settled family bs ≡ n)
  unfolding seen
  seen_whole n e =
      let h = is_whole (waits family bs) whole_test declared (settled family bs) n e in (
        head_by false h.0 ∙ ap (λ (k : ℕ). head_of k (read_one family (take k bs))) h.1.1,
        eqb-true (settled family bs) declared (both_left _ _ h.1.0) ∙ h.1.1,
      )

  -- a start that is seen to be bad: it is not whole
  pub not_whole : (d : ℕ) → seen family bs ≡ Bad d → (whole_test ≡ false) × (settled family bs ≡ d)
  unfolding seen
  not_whole d e = (is_bad (waits family bs) whole_test declared (settled family bs) d e).1

  pub whole_is : (n : ℕ) → seen family bs ≡ Whole n → declared ≡ n
  unfolding seen
  whole_is n e = (is_whole (waits family bs) whole_test declared (settled family bs) n e).1.1

-- Of an SPE family: k marks and nothing more, k below four, is undecided; a start that fewer than six bytes settle is bad,
-- since no start needs so few; the length is what it needs, and no whole frame is shorter than a packet with a code.
module _ (family : ℕ) (spe : is_spe family ≡ true) (bs : List ℕ) where
  pub few : (k : ℕ) → length bs ≡ k → k < 4 → Marks family k bs → Undecided ≡ seen family bs
  few k e h m = undecided family bs (few_marks family spe bs (omega arith) (subst⁻¹ (λ (n : ℕ). Marks family n bs) e m))

  pub counted : length_at family bs ≡ needs family bs
  counted = rw spe

  pub whole_length : (n : ℕ) → 0 < n → seen family bs ≡ Whole n → packet_length ≤ n
  whole_length n some e =
      let is = whole_is family bs n e in
      omega (arith, is, counted, needs_six family bs (omega (arith, is, counted, some)))

  pub bad_packet : (d : ℕ) → 0 < d → d < 6 → (head family bs ≡ bad) × (settled family bs ≡ d) → Bad d ≡ seen family bs
  bad_packet d some low e =
      bad_start family bs d e
      (λ same. let is : d ≡ needs family bs = same ∙ counted in omega (arith, needs_six family bs (omega (arith, is, some)), is, low))

  -- A start that is seen to be bad was settled by four bytes or fewer: by a byte that is no mark, or by its count.
  settled_is : settled family bs ≡ spe_settled family bs
  unfolding settled
  settled_is = rw spe

  at_most_four : (a b c d : Bool) (n : ℕ) → (cond a 1 (cond b 2 (cond c 3 (cond d 4 n))) ≡ n → ⊥) → cond a 1 (cond b 2 (cond c 3 (cond d 4 n))) ≤ 4
  at_most_four true b c d n other = lit≤ tt
  at_most_four false true c d n other = lit≤ tt
  at_most_four false false true d n other = lit≤ tt
  at_most_four false false false true n other = lit≤ tt
  at_most_four false false false false n other = absurd (other refl)

  pub bad_soon : (d : ℕ) → seen family bs ≡ Bad d → d ≤ 4
  unfolding spe_settled
  bad_soon d e =
      let h = not_whole family bs d e in
      let other : spe_settled family bs ≡ needs family bs → ⊥ =
      λ same.
      false≢true
      (sym h.0 ∙ both_pass _ _ (eq-eqb (settled family bs) (length_at family bs) (settled_is ∙ same ∙ sym counted)) (rw spe)) in
      let mark : ℕ → Bool = λ k. not (eqb (mark_of family) (get_or bs k 0)) in
      omega (arith, at_most_four (mark 0) (mark 1) (mark 2) (eqb (needs family bs) 0) (needs family bs) other, settled_is, h.1)

-- what is closed off, and what is not
pub closes_off : (family : ℕ) (is : Bracketed family) (bs : List ℕ) → get_or bs (run (brackets_of family) bs + 1) 0 ≡ (brackets_of family).closing
    → is_closed_off family bs ≡ true
closes_off family is bs closes = rw is.no_spe (eq-eqb _ _ closes)

pub stays_open : (family : ℕ) (is : Bracketed family) (bs : List ℕ) → (get_or bs (run (brackets_of family) bs + 1) 0 ≡ (brackets_of family).closing → ⊥)
    → is_closed_off family bs ≡ false
stays_open family is bs other = rw is.no_spe (ne_eqb _ _ other)

-- Between brackets: an opened start that is seen to be bad was settled by the byte behind its inner bytes, or by one of them.
module _ (family : ℕ) (is : Bracketed family) (bs : List ℕ) (some : 0 < length bs) (opens : get_or bs 0 0 ≡ (brackets_of family).opening) where
  abbrev k : Brackets
  k = brackets_of family

  pub bad_behind : (d : ℕ) → seen family bs ≡ Bad d → (2 ≤ d) × (d ≤ run k bs + 2)
  bad_behind d e =
      let h = not_whole family bs d e in
      elim (dec_lt k.most (run k bs)) [
        | yes long ↦ let settles = (too_long family is bs some opens long).1 in (omega (arith, settles, h.1), omega (arith, settles, h.1))
        | no fits ↦
            let there : run k bs + 1 < length bs = behind_run d e (omega arith) in
            elim (ℕ_discrete (get_or bs (run k bs + 1) 0) k.closing) [
              | yes closes ↦ absurd (closed d e (omega arith) closes)
              | no other ↦
                  let settles = (not_closed family is bs some opens (run k bs) refl (omega arith) there other).1 in
                  (omega (arith, settles, h.1), omega (arith, settles, h.1))
            ]
      ]
    where
      bad_waits : (d : ℕ) → seen family bs ≡ Bad d → head family bs ≡ wait → ⊥
      bad_waits d e w = let z : ◌≡◌ {A = ℕ} 0 1 = cc (seen_bad family bs d e).0 in omega arith

      behind_run : (d : ℕ) → seen family bs ≡ Bad d → run k bs ≤ k.most → run k bs + 1 < length bs
      behind_run d e fits =
          elim (dec_lt (run k bs + 1) (length bs)) [
            | yes there ↦ there
            | no end ↦ absurd (bad_waits d e (inner_open family is bs some opens (run k bs) refl fits (omega arith)))
          ]

      closed : (d : ℕ) → seen family bs ≡ Bad d → run k bs ≤ k.most → get_or bs (run k bs + 1) 0 ≡ k.closing → ⊥
      closed d e fits closes =
          elim (dec_lt (length bs) (around k (run k bs))) [
            | yes fewer ↦ bad_waits d e (tail_missing family is bs some opens (run k bs) refl fits closes fewer)
            | no enough ↦
                let whole = (all_there family is bs some opens (run k bs) refl fits closes (omega arith)).1 in
                false≢true
                (sym (not_whole family bs d e).0
                ∙ both_pass _ _ (eq-eqb (settled family bs) (length_at family bs) (whole ∙ sym (length_is family is bs))) (closes_off family is bs closes))
          ]
