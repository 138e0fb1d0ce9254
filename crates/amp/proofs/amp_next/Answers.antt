-- `amp::amp_next` meets its contract: what is found for the byte is what is found for the family, and a frame has some bytes.
-- Assumes nothing.
use Rattle.std.proofs.Common.{ℕ, zero, suc, pred, ◌≡◌, ◌<◌, Bool, true, false, ◌&&◌, ◌||◌, not, cond, List, [], ◌∷◌, length, drop, leb, refl, ap, sym, subst, arith, ◌∙◌}
use borrow.Author.Tests.{ne_eqb}
use Rattle.std.specs.Prelude.{Some, None}
use Rattle.rules.specs.Answers.{is_family, kind_of}
use Rattle.stream_rules.specs.Heads.{Head, wait, bad, good, head}
use Rattle.stream_rules.specs.Rule.{Found, by_head, rule}
use Rattle.stream_rules.specs.Lister.{fits}
use Rattle.stream_laws.proofs.Heads.{good_head}
use Rattle.stream_laws.proofs.Listing.{Each}
use Rattle.captures.specs.declared.spans.Span.{Span}
use Rattle.captures.specs.Finds.{is_report, span_of, first_wanted, frames_from, length_of, start_of, next_in}
use Rattle.amp.proofs.Families.{next_byte}
use Rattle.amp.proofs.amp_next.Goals as goal

abbrev HasBytes : Found → Type 0
HasBytes f = 0 < f.length

-- every frame that the rule finds has some bytes, and so the first that is wanted
module _ (family : ℕ) where
  head_some : (at skipped b : ℕ) (bs : List ℕ) (on : List Found) (behind : ℕ → List Found) → Each HasBytes on → ((n : ℕ) → Each HasBytes (behind n))
      → (x : Head) → head family (b ∷ bs) ≡ x → Each HasBytes (by_head x on on (λ n f. record { start = at; skipped = skipped; length = n; frame = f } ∷ behind n))
  head_some at skipped b bs on behind p q wait e = p
  head_some at skipped b bs on behind p q bad e = p
  head_some at skipped b bs on behind p q (good n f) e = ((good_head family (b ∷ bs) n f e).some, q n)

  rule_some : (inside at skipped : ℕ) (bs : List ℕ) → Each HasBytes (rule (head family) inside at skipped bs)
  unfolding rule
  rule_some inside at skipped [] = tt
  rule_some (suc inside) at skipped (b ∷ bs) = rule_some inside (suc at) skipped bs
  rule_some zero at skipped (b ∷ bs) =
      head_some at skipped b bs
      (rule (head family) zero (suc at) (suc skipped) bs)
      (λ n. rule (head family) (pred n) (suc at) zero bs)
      (rule_some zero (suc at) (suc skipped) bs)
      (λ n. rule_some (pred n) (suc at) zero bs)
      (head family (b ∷ bs))
      refl

wanted_some : (reports : Bool) (fs : List Found) → Each HasBytes fs → (s : Span) → first_wanted reports fs ≡ Some s → 0 < s.length
unfolding first_wanted
wanted_some reports [] e s is = cc
wanted_some reports (f ∷ fs) e s is = by_test (not reports || is_report (kind_of f.frame)) (wanted_some reports fs e.1 s) is
  where
    by_test : (b : Bool) → (first_wanted reports fs ≡ Some s → 0 < s.length) → cond b (Some (span_of f)) (first_wanted reports fs) ≡ Some s → 0 < s.length
    by_test true on is = let same : span_of f ≡ s = cc in subst (λ (x : Span). 0 < x.length) same e.0
    by_test false on is = on is

next_some : (family : ℕ) (capture : List ℕ) (place : ℕ) (reports : Bool) (s : Span) → next_in family capture place reports ≡ Some s → 0 < s.length
unfolding next_in
next_some family capture place reports s is = by_test (is_family family && fits capture && leb place (length capture)) is
  where
    by_test : (b : Bool) → cond b (first_wanted reports (frames_from family capture place)) None ≡ Some s → 0 < s.length
    by_test true is = wanted_some reports (frames_from family capture place) (rule_some family zero place zero (drop place capture)) s is
    by_test false is = cc

above_0 : {n : ℕ} → 0 < n → n ≡ 0 → ⊥
above_0 some e = omega arith

pub returns : goal.returns
returns c =
    let found = c.in-Some.ensures ∙ next_byte _ _ c.family_byte.ensures _ _ _ in
    record { lengths = ap length_of found; starts = rw (ne_eqb _ 0 (above_0 (next_some _ _ _ _ _ (sym found)))) (ap start_of found) }

pub returns-in_default : goal.returns-in_default
returns-in_default c =
    let none = c.in_default.ensures ∙ next_byte _ _ c.family_byte.ensures _ _ _ in
    record { lengths = ap length_of none; starts = refl }
