-- What is left to show of `captures::spans::find`, with the invariants beside. Assumes nothing.
use Prim.Native.Nat.{ℕ, ◌+◌}
use mathlib.Core.Path.{◌≡◌, refl, sym, ap, ◌∙◌}
use mathlib.Core.Bool.{Bool, true, false, ◌&&◌, ◌||◌, cond, not, and-false, or-true}
use mathlib.Core.List.{List, []}
use native.Mathlib.Omega.{arith}
use borrow.Author.Tests.{le-leb, lt-leb, leb-false}
use lib.Dec.{leb}
use lib.ListN.{length}
use Rattle.rules.specs.Answers.{is_family, kind_of, message_kind}
use Rattle.rules.specs.declared.Message as MessageType
use Rattle.rules.specs.declared.Status as StatusType
use Rattle.rules.specs.declared.Message.TheVariants.{Question, Number, Version, Clock, Tune, OtherLetters}
use Rattle.rules.specs.declared.Frame.{Frame}
use Rattle.rules.specs.declared.Frame.TheVariants.{Ack, Status, Command, Apa02, Apa03, Apa05, Other, Message}
use Rattle.stream_rules.specs.Lister.{fits}
use Rattle.search.proofs.Walk.{left, Next, next, no_next, at_end}
use Rattle.captures.specs.declared.spans.Span.{Span}
use Rattle.std.specs.Prelude.{Option, Some, None}
use Rattle.search.specs.declared.First.{First}
use Rattle.captures.specs.Finds.{is_report, first_wanted, next_in}
use Rattle.captures.proofs.spans.find.Goals as goal

-- no message is a report
no_message : (m : MessageType.Message) → is_report (message_kind m) ≡ false
no_message (Question letters) = refl
no_message (Number letters n) = refl
no_message (Version a b) = refl
no_message (Clock c) = refl
no_message Tune = refl
no_message (OtherLetters w) = refl

-- a frame that is no status report
not_report : (f : Frame) → ((s : StatusType.Status) → f ≡ Status s → ⊥) → is_report (kind_of f) ≡ false
not_report (Ack c) other = refl
not_report (Status s) other = absurd (other s refl)
not_report (Command c) other = refl
not_report (Apa02 r) other = refl
not_report (Apa03 r) other = refl
not_report (Apa05 r) other = refl
not_report (Other n) other = refl
not_report (Message m) other = no_message m

module _ (family : ℕ) (bs : List ℕ) (place : ℕ) (reports : Bool) where
  -- What is wanted, by the three tests.
  abbrev by : Bool → Bool → Bool → Option Span
  by f g p = cond (f && g && p) (first_wanted reports (left family bs place)) None

  no_family : is_family family ≡ false → None ≡ next_in family bs place reports
  unfolding next_in
  no_family e = λ i. by (sym e i) (fits bs) (leb place (length bs))

  too_long : fits bs ≡ false → None ≡ next_in family bs place reports
  unfolding next_in
  too_long e =
      (λ i. cond (sym (and-false (is_family family)) i && leb place (length bs)) (first_wanted reports (left family bs place)) None)
      ∙ (λ i. by (is_family family) (sym e i) (leb place (length bs)))

  -- Where the first two pass, the walk begins at the place; beyond the end nothing is left.
  begins : is_family family ≡ true → fits bs ≡ true → next_in family bs place reports ≡ first_wanted reports (left family bs place)
  unfolding next_in first_wanted
  begins e g = (λ i. by (e i) (g i) (leb place (length bs))) ∙ case (leb place (length bs)) refl
    where
      case : (p : Bool) → leb place (length bs) ≡ p → by true true p ≡ first_wanted reports (left family bs place)
      case true q = refl
      case false q = ap (first_wanted reports) (sym (at_end family bs place (omega (arith, leb-false place (length bs) q))))

  none_left : (at : ℕ) → next_in family bs place reports ≡ first_wanted reports (left family bs at) → left family bs at ≡ [] → None ≡ next_in family bs place reports
  unfolding first_wanted
  none_left at inv e = sym (inv ∙ ap (first_wanted reports) e)

  module _ (at : ℕ) (first : First) (inv : next_in family bs place reports ≡ first_wanted reports (left family bs at)) (n : Next family bs at first.start first.length first.frame) where
    abbrev on : Option Span
    on = first_wanted reports (left family bs (first.start + first.length))

    abbrev it : Option Span
    it = Some (record { start = first.start; length = first.length; behind = first.start + first.length })

    opened : next_in family bs place reports ≡ cond (not reports || is_report (kind_of first.frame)) it on
    unfolding first_wanted
    opened = inv ∙ ap (first_wanted reports) n.lists

    wanted_any : reports ≡ false → it ≡ next_in family bs place reports
    wanted_any e = (λ i. cond (not (sym e i) || is_report (kind_of first.frame)) it on) ∙ sym opened

    wanted_report : is_report (kind_of first.frame) ≡ true → it ≡ next_in family bs place reports
    wanted_report e = (λ i. cond (sym (or-true (not reports)) i) it on) ∙ (λ i. cond (not reports || sym e i) it on) ∙ sym opened

    passed_over : reports ≡ true → is_report (kind_of first.frame) ≡ false → next_in family bs place reports ≡ on
    passed_over e d = opened ∙ (λ i. cond (not (e i) || d i) it on)

pub returns-then-not-is_family : goal.returns-then-not-is_family
returns-then-not-is_family c = no_family _ _ _ _ (sym c.is_family.ensures ∙ c.if-not-is_family.true)

pub returns-then-capture-gt-LONGEST_CAPTURE : goal.returns-then-capture-gt-LONGEST_CAPTURE
returns-then-capture-gt-LONGEST_CAPTURE c = too_long _ _ _ _ (lt-leb (length c.args.capture.now) 65536 c.if-capture-gt-LONGEST_CAPTURE.true)

pub loop-first-init : goal.loop-first-init
loop-first-init c =
    begins _ _ _ _ (sym c.is_family.ensures ∙ c.if-not-is_family.false) (le-leb (length c.args.capture.now) 65536 c.if-capture-gt-LONGEST_CAPTURE.false)

pub returns : goal.returns
returns c = none_left _ _ _ _ _ c.loop-first.invariant (no_next c.args.family c.args.capture.now c.loop-first.at (sym c.in_default.ensures))

pub overflow_add-at : goal.overflow_add-at
overflow_add-at c = let n = next c.args.family c.args.capture.now c.loop-first.at _ (sym c.in-Some.ensures) in omega (arith, n.there)

pub returns-in-Status : goal.returns-in-Status
returns-in-Status c = wanted_report _ _ _ _ _ c.in-Some.first c.loop-first.invariant (next _ _ _ _ (sym c.in-Some.ensures)) (ap (λ (f : Frame). is_report (kind_of f)) c.in-Status.is)

pub returns-else-reports : goal.returns-else-reports
returns-else-reports c = wanted_any _ _ _ _ _ c.in-Some.first c.loop-first.invariant (next _ _ _ _ (sym c.in-Some.ensures)) c.if-reports.false

pub loop-first-smaller : goal.loop-first-smaller
loop-first-smaller c = let n = next c.args.family c.args.capture.now c.loop-first.at _ (sym c.in-Some.ensures) in omega (arith, n.place, n.some, n.there)

pub loop-first-preserved : goal.loop-first-preserved
loop-first-preserved c =
    passed_over _ _ _ _ _ c.in-Some.first c.loop-first.invariant (next _ _ _ _ (sym c.in-Some.ensures)) c.if-reports.true (not_report _ c.in_default-frame.not-Status)
