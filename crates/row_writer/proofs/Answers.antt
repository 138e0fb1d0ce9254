-- What is answered where no frame is given: a code that is no byte is no code. Assumes nothing.
use Prim.Native.Nat.{ℕ, ◌<◌}
use mathlib.Core.Path.{◌≡◌, refl}
use mathlib.Core.Bool.{Bool, true, false, cond, ◌&&◌, ◌||◌}
use mathlib.Core.List.{List}
use mathlib.Core.Logic.{⊎_elim}
use native.Mathlib.Omega.{arith}
use borrow.Author.Tests.{leb-true, ltb-true, eqb-true}
use lib.Dec.{eqb, leb, ltb}
use lib.IntN.{ℤ}
use Rattle.rules.specs.Bytes.{every}
use Rattle.rules.specs.Codes.{codes, is_code, is_ack_code}
use Rattle.std.specs.Prelude.{Option, Some, None, Ok, Err}
use Rattle.rules.specs.declared.Refusal.{Refusal}
use Rattle.rules.specs.declared.Refusal.TheVariants.{NoCode, NoRecord}
use Rattle.rules.specs.Answers.{allowed, Writes}
use Rattle.rules.specs.declared.Frame.{Frame}
use Rattle.rules.specs.declared.Frame.TheVariants.{Ack, Command}
use Rattle.frame_laws.proofs.Bytes.{both, either, answer, one_of_these}
use Rattle.row_writer.specs.Given.{frame_given, or_no_record, given_or_refused, WritesFrame}
use Rattle.row_writer.proofs.Frames.{as_ack, as_command}

refused : {may : Bool} {e : Refusal} {frame out : List ℕ} → may ≡ false → Writes may e frame out (Err e) out
refused never = record { answers = rw never; says = rw never; content = rw never }

-- a number above 255 is no code
not_a_code : (c : ℕ) → 255 < c → is_code c ≡ false
unfolding is_code every
not_a_code c h =
    ⊎_elim
    (λ (e : is_code c ≡ true). absurd (omega (arith, leb-true c 255 (one_of_these (λ b. leb b 255) codes c refl e))))
    (λ (e : is_code c ≡ false). e)
    (answer (is_code c))

no_ack : (c : ℕ) → 255 < c → allowed (Ack c) ≡ false
unfolding allowed is_ack_code
no_ack c h = rw (not_a_code c h)

no_command : (c : ℕ) → 255 < c → allowed (Command c) ≡ false
unfolding allowed
no_command c h = not_a_code c h

no_byte : (kind code : ℕ) (vs : List ℤ) (out : List ℕ) → (ltb 255 code && (eqb kind 1 || eqb kind 3)) ≡ true
    → WritesFrame (frame_given kind code vs) out (Err NoCode) out
no_byte kind code vs out h =
    let p = both (ltb 255 code) (eqb kind 1 || eqb kind 3) h in
    let large = ltb-true 255 code p.0 in
    ⊎_elim
    (λ (e : eqb kind 1 ≡ true). rw (← as_ack kind code vs (eqb-true kind 1 e)) (refused (no_ack code large)))
    (λ (e : eqb kind 3 ≡ true). rw (← as_command kind code vs (eqb-true kind 3 e)) (refused (no_command code large)))
    (either (eqb kind 1) (eqb kind 3) p.1)

-- what is given, and what is answered where nothing is
pub given : (kind code : ℕ) (vs : List ℤ) (f : Frame) → Ok f ≡ given_or_refused kind code vs → frame_given kind code vs ≡ Some f
given kind code vs f e = by_test (ltb 255 code && (eqb kind 1 || eqb kind 3)) (frame_given kind code vs) e
  where
    by_test : (b : Bool) (g : Option Frame) → Ok f ≡ cond b (Err NoCode) (or_no_record g) → g ≡ Some f
    by_test true g e = cc
    by_test false (Some g) e = cc
    by_test false None e = cc

pub not_given : (kind code : ℕ) (vs : List ℤ) (e : Refusal) (out : List ℕ) → Err e ≡ given_or_refused kind code vs
    → WritesFrame (frame_given kind code vs) out (Err e) out
not_given kind code vs e out is = by_test (ltb 255 code && (eqb kind 1 || eqb kind 3)) refl (frame_given kind code vs) refl is
  where
    by_test : (b : Bool) → (ltb 255 code && (eqb kind 1 || eqb kind 3)) ≡ b → (g : Option Frame) → frame_given kind code vs ≡ g
        → Err e ≡ cond b (Err NoCode) (or_no_record g) → WritesFrame g out (Err e) out
    by_test true h g same e' = let code_none : e ≡ NoCode = cc in rw (code_none, ← same) (no_byte kind code vs out h)
    by_test false h (Some f) same e' = cc
    by_test false h None same e' = let record_none : e ≡ NoRecord = cc in rw record_none (refused refl)
