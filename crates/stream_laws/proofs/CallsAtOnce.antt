-- A call on a first piece of the bytes, which the call on the rest goes on from: a call on two pieces goes byte by byte.
-- Assumes nothing.
use Prim.Native.Nat.{ℕ, zero, suc, ◌+◌, ◌<◌}
use mathlib.Core.Path.{◌≡◌, refl, ap, ◌∙◌}
use mathlib.Core.List.{List, [], ◌∷◌, ◌++◌}
use native.Mathlib.Nat.{add-zero, zero-add, suc-add, add_assoc}
use native.Mathlib.Omega.{arith}
use lib.ListN.{length}
use Rattle.rules.specs.declared.Frame.{Frame}
use Rattle.stream_rules.specs.Heads.{Head, wait}
use Rattle.stream_rules.specs.Rule.{Look, ready, waiting, by_look, look, Call, gives, wants, took, call}
use Rattle.stream_laws.proofs.Facts.{Facts}
use Rattle.stream_laws.proofs.Looks.{kept_waits}
use Rattle.stream_laws.proofs.Calls.{call_wants, wants_short}
use Rattle.stream_laws.proofs.Starts.{look_at_wait}

-- A call, after others that took t bytes and skipped s.
abbrev pub after : ℕ → ℕ → Call → Call
after t s (gives taken k n f kept) = gives (t + taken) (s + k) n f kept
after t s (wants taken k kept) = wants (t + taken) (s + k) kept

-- A call on some bytes and on more, from the call on the first: its frame stays, and where more was wanted, a call that
-- holds what was kept goes on.
abbrev onward : (List ℕ → Head) → List ℕ → Call → Call
onward h more (gives taken k n f kept) = gives taken k n f kept
onward h more (wants taken k kept) = after taken k (call h kept more)

took_again : (k : ℕ) (c : Call) → took k c ≡ after 0 k (took 0 c)
took_again k (gives taken j n f kept) = simp zero-add
took_again k (wants taken j kept) = simp zero-add

took_after : (k t s : ℕ) (c : Call) → took k (after t s c) ≡ after (suc t) (k + s) c
took_after k t s (gives taken j n f kept) = simp (suc-add, add_assoc)
took_after k t s (wants taken j kept) = simp (suc-add, add_assoc)

took_onward : (h : List ℕ → Head) (more : List ℕ) (k : ℕ) (c : Call) → took k (onward h more c) ≡ onward h more (took k c)
took_onward h more k (gives taken j n f kept) = refl
took_onward h more k (wants taken j kept) = took_after k taken j (call h kept more)

module _ {h : List ℕ → Head} {top : ℕ} (facts : Facts h top) where
  -- What is kept is undecided, so that a call which holds it looks at it in vain.
  look_again : (bs : List ℕ) (k : ℕ) (rest : List ℕ) → look h bs ≡ waiting k rest → look h rest ≡ waiting 0 rest
  look_again bs k rest e = look_at_wait h rest 0 (omega arith) (λ j p. absurd (omega arith)) (kept_waits h top facts bs k rest e)

  none_before : (held more : List ℕ) (l : Look) → look h held ≡ l → call h held more ≡ onward h more (by_look l (gives zero) (wants zero))
  unfolding call
  none_before held [] (ready k n f kept) e = rw e
  none_before held (b ∷ bs) (ready k n f kept) e = rw e
  none_before held [] (waiting k rest) e = rw (e, look_again held k rest e) (simp add-zero)
  none_before held (b ∷ bs) (waiting k rest) e = rw (e, look_again held k rest e) (took_again k (call h (rest ++ b ∷ []) bs))

  one_before : (held : List ℕ) (b : ℕ) (bs more : List ℕ) → ((rest : List ℕ) → call h rest (bs ++ more) ≡ onward h more (call h rest bs))
      → (l : Look) → look h held ≡ l → call h held (b ∷ bs ++ more) ≡ onward h more (by_look l (gives zero) (λ k rest. took k (call h (rest ++ b ∷ []) bs)))
  unfolding call
  one_before held b bs more on (ready k n f kept) e = rw e
  one_before held b bs more on (waiting k rest) e = rw e (ap (took k) (on (rest ++ b ∷ [])) ∙ took_onward h more k (call h (rest ++ b ∷ []) bs))

  -- The call on both, byte by byte of the first.
  call-on : (more bs held : List ℕ) → call h held (bs ++ more) ≡ onward h more (call h held bs)
  unfolding call
  call-on more [] held = none_before held more (look h held) refl
  call-on more (b ∷ bs) held = one_before held b bs more (call-on more bs) (look h held) refl

  module _ (held bs : List ℕ) where
    -- A frame given for a first piece is the one given for the whole.
    pub piece_gives : (taken k n : ℕ) (f : Frame) (kept : List ℕ) → call h held bs ≡ gives taken k n f kept
        → (more : List ℕ) → call h held (bs ++ more) ≡ gives taken k n f kept
    piece_gives taken k n f kept e more = call-on more bs held ∙ ap (onward h more) e

    -- Where the first piece is not enough, a call that holds what was kept goes on with the rest.
    pub piece_wants : (taken k : ℕ) (kept : List ℕ) → call h held bs ≡ wants taken k kept
        → (more : List ℕ) → call h held (bs ++ more) ≡ after taken k (call h kept more)
    piece_wants taken k kept e more = call-on more bs held ∙ ap (onward h more) e

    -- What was kept is undecided, and shorter than the longest frame.
    pub piece_keeps : (taken k : ℕ) (kept : List ℕ) → call h held bs ≡ wants taken k kept → (h kept ≡ wait) × (length kept < top)
    piece_keeps taken k kept e =
        (kept_waits h top facts (held ++ bs) k kept (call_wants h top facts held bs taken k kept e).looks, wants_short h top facts held bs taken k kept e)
