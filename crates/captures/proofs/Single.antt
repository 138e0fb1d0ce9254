-- Two results of a capture reader that meet its promise are equal: what the part shows, where it stands, and the place
-- reached; and the capture that the reader holds.
-- Assumes nothing.
use Prim.Native.Nat.{ℕ}
use mathlib.Core.Path.{◌≡◌}
use mathlib.Core.Bool.{Bool}
use mathlib.Core.List.{List}
use denote.Ref.{Bor}
use Rattle.frame_laws.proofs.Single.{one_answer, part_single}
use Rattle.captures.specs.declared.walks.CaptureReader.{CaptureReader}
use Rattle.captures.specs.Captures.{GivesAt, Gives}

module _ (family : ℕ) (reports : Bool) where
  pub gives_at_single : (capture : Bor (List ℕ)) (place m n : ℕ) (a b : Bor (List ℕ))
      → GivesAt family reports capture place m a → GivesAt family reports capture place n b
      → (a.now ≡ b.now) × (a.ref_ptr ≡ b.ref_ptr) × (m ≡ n)
  gives_at_single capture place m n a b p q =
      let same = part_single capture _ _ a b p.frame q.frame in
      (same.0, same.1, one_answer p.reached q.reached)

  pub gives_single : (before after other : CaptureReader) (a b : Bor (List ℕ)) → Gives family reports before after a → Gives family reports before other b
      → (a.now ≡ b.now) × (a.ref_ptr ≡ b.ref_ptr) × (after ≡ other)
  gives_single before after other a b p q =
      let same = gives_at_single before.capture before.place after.place other.place a b p.gives q.gives in
      let captures = one_answer p.same_capture q.same_capture in
      (same.0, same.1, λ i. record { capture = captures i; place = same.2 i })
