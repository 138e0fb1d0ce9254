-- What each way out of a writer shows: a refusal, no room, and a frame laid at the front of the output.
-- Assumes nothing.
use Prim.Native.Nat.{ℕ, ◌≤◌, ◌<◌}
use Rattle.rules.specs.Answers.{Wrote}
use Rattle.rules.specs.declared.Refusal.{Refusal}
use Rattle.rules.specs.declared.Refusal.TheVariants.{NoRoom}
use Rattle.std.specs.Prelude.{Err, Ok}
use mathlib.Core.Path.{◌≡◌, ◌∙◌}
use mathlib.Core.Bool.{Bool, true, false}
use mathlib.Core.List.{List}
use native.Mathlib.Omega.{arith}
use borrow.Author.Tests.{le-leb, lt-leb}
use lib.ListN.{length}
use Rattle.rules.specs.Answers.{Writes}
use Rattle.pens.specs.Pens.{laid}
use Rattle.pens.proofs.Laid.{laid_front}

module _ {allowed : Bool} {n : Refusal} {frame out : List ℕ} where
  pub refuses : allowed ≡ false → Writes allowed n frame out (Err n) out
  refuses e = record { answers = rw e; says = rw e; content = rw e }

  pub has_no_room : allowed ≡ true → length out < length frame → Writes allowed n frame out (Err NoRoom) out
  has_no_room e h = record { answers = rw (e, lt-leb _ _ h); says = rw (e, lt-leb _ _ h); content = rw (e, lt-leb _ _ h) }

  pub writes : {after : List ℕ} {k : ℕ} → allowed ≡ true → length frame ≡ k → k ≤ length out → after ≡ laid 0 frame out → Writes allowed n frame out (Ok k) after
  writes {after} {k} e size h laying =
      let fits : length frame ≤ length out = omega arith in record {
        answers = rw (e, le-leb _ _ fits, size);
        says = rw (e, le-leb _ _ fits, size);
        content = laying ∙ laid_front frame out fits ∙ rw (e, le-leb _ _ fits);
      }

  -- what is written with no test is written where the test passes
  pub allowed_too : {answer : Wrote} {after : List ℕ} → allowed ≡ true → Writes true n frame out answer after → Writes allowed n frame out answer after
  allowed_too e w = rw e w
