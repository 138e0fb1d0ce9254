-- What a refusal of a reader that no call serves is to a call on it and to its close, and what a reader is that is served.
-- Assumes nothing.
use Prim.Native.Nat.{ℕ}
use mathlib.Core.Path.{◌≡◌, refl, ap}
use mathlib.Core.Bool.{Bool, true, false, cond, not}
use mathlib.Core.List.{List}
use native.Mathlib.Omega.{arith}
use borrow.Author.Tests.{leb-true}
use lib.Dec.{leb}
use Rattle.std.specs.Prelude.{Result, Ok, Err}
use Rattle.rules.specs.Answers.{is_family}
use Rattle.rules.specs.declared.Refusal.{Refusal}
use Rattle.rules.specs.declared.Refusal.TheVariants.{NoFamily, HoldsTooMuch}
use Rattle.stream_rules.specs.Heads.{head}
use Rattle.stream_rules.specs.Streams.{holds, refuse, fed, shut}
use Rattle.stream_rules.specs.declared.Reader.{Reader}
use Rattle.stream_rules.specs.declared.Turned.{Turned}
use Rattle.stream_laws.proofs.Facts.{top_above}
use Rattle.stream_laws.proofs.Families.{facts}
use Rattle.held_bytes.specs.Moves.{served, MayHold}

-- what the two tests of a reader come to
abbrev by_tests : {A : Type 0} → Bool → Bool → (Refusal → A) → A → A
by_tests family few refused allowed = cond (not family) (refused NoFamily) (cond (not few) (refused HoldsTooMuch) allowed)

abbrev refusal_by : Bool → Bool → Result Unit Refusal
refusal_by family few = by_tests family few Err (Ok tt)

both_true : (family few : Bool) → refusal_by family few ≡ Ok tt → (family ≡ true) × (few ≡ true)
both_true true true e = (refl, refl)
both_true true false e = cc
both_true false few e = cc

said_no : {A : Type 0} (family few : Bool) (refused : Refusal → A) (allowed : A) (e : Refusal) → refusal_by family few ≡ Err e → by_tests family few refused allowed ≡ refused e
said_no true true refused allowed e is = cc
said_no true false refused allowed e is = let same : HoldsTooMuch ≡ e = cc in ap refused same
said_no false few refused allowed e is = let same : NoFamily ≡ e = cc in ap refused same

module _ (r : Reader) where
  pub is_served : served r ≡ Ok tt → (is_family r.family ≡ true) × MayHold r
  is_served e =
      let told = both_true (is_family r.family) (leb r.count (holds r.family)) e in
      (told.0, omega (arith, leb-true r.count (holds r.family) told.1, top_above (head r.family) _ (facts r.family)))

  pub refused_feed : (e : Refusal) → served r ≡ Err e → (offered : List ℕ) → fed r offered ≡ refuse r e
  unfolding fed
  refused_feed e is offered = said_no (is_family r.family) (leb r.count (holds r.family)) (refuse r) _ e is

  pub refused_shut : (e : Refusal) → served r ≡ Err e → shut r ≡ record { reader = r; outcome = Err e }
  unfolding shut
  refused_shut e is = said_no {A = Turned} (is_family r.family) (leb r.count (holds r.family)) (λ (n : Refusal). record { reader = r; outcome = Err n }) _ e is
