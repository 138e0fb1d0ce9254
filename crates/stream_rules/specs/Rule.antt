-- Demand 3's rule, and what a call does with the bytes that it holds and is offered. All of it is said over what stands
-- at the head of a list, `h`, so over any family.
use Rattle.std.specs.Prelude.{ℕ, zero, suc, pred, ◌+◌, List, [], ◌∷◌, ◌++◌, drop}
use Rattle.rules.specs.declared.Frame.{Frame}
use Rattle.stream_rules.specs.Heads.{Head, wait, bad, good}

-- a choice by what stands at the head; the last is for a good frame
abbrev pub by_head : {A : Type 0} → Head → A → A → (ℕ → Frame → A) → A
by_head wait onWait onBad onGood = onWait
by_head bad onWait onBad onGood = onBad
by_head (good n f) onWait onBad onGood = onGood n f

-- A frame that the rule finds: its start, the bytes skipped before it since the last frame, its length, and the frame.
pub record Found : Type 0 where
  pub start : ℕ
  pub skipped : ℕ
  pub length : ℕ
  pub frame : Frame

-- The rule: the good frame that begins earliest, then on right behind it, and so on. `inside` bytes still belong to the
-- last frame found, `at` is the place of the first byte, and `skipped` bytes were passed over since that frame. The bytes
-- are the whole stream, as at close, so an undecided start is passed over like a bad one.
unfoldable pub rule : (List ℕ → Head) → ℕ → ℕ → ℕ → List ℕ → List Found
rule h inside at skipped [] = []
rule h (suc inside) at skipped (b ∷ bs) = rule h inside (suc at) skipped bs
rule h zero at skipped (b ∷ bs) =
    let on : List Found = rule h zero (suc at) (suc skipped) bs in
    by_head (h (b ∷ bs)) on on (λ n f. record { start = at; skipped = skipped; length = n; frame = f } ∷ rule h (pred n) (suc at) zero bs)

-- What is found in held bytes: a frame that is ready behind some skipped bytes, with its length and the bytes behind it;
-- or, behind the skipped bytes, those from the first undecided start on.
pub data Look : Type 0 where
  ready : ℕ → ℕ → Frame → List ℕ → Look
  waiting : ℕ → List ℕ → Look

abbrev pub past : Look → Look
past (ready k n f behind) = ready (suc k) n f behind
past (waiting k rest) = waiting (suc k) rest

unfoldable pub look : (List ℕ → Head) → List ℕ → Look
look h [] = waiting zero []
look h (b ∷ bs) = by_head (h (b ∷ bs)) (waiting zero (b ∷ bs)) (past (look h bs)) (λ n f. ready zero n f (drop n (b ∷ bs)))

-- What a call gives: a frame, or more wanted; with the bytes taken, the bytes skipped, and the bytes kept.
pub data Call : Type 0 where
  gives : ℕ → ℕ → ℕ → Frame → List ℕ → Call
  wants : ℕ → ℕ → List ℕ → Call

abbrev pub took : ℕ → Call → Call
took k (gives taken skipped n f kept) = gives (suc taken) (k + skipped) n f kept
took k (wants taken skipped kept) = wants (suc taken) (k + skipped) kept

abbrev pub by_look : {A : Type 0} → Look → (ℕ → ℕ → Frame → List ℕ → A) → (ℕ → List ℕ → A) → A
by_look (ready k n f behind) onReady onWaiting = onReady k n f behind
by_look (waiting k rest) onReady onWaiting = onWaiting k rest

-- A call tries what it holds before it takes a byte, and stops taking when a frame is ready. It wants more only when it
-- took everything.
unfoldable pub call : (List ℕ → Head) → List ℕ → List ℕ → Call
call h held [] = by_look (look h held) (gives zero) (wants zero)
call h held (b ∷ bs) = by_look (look h held) (gives zero) (λ k rest. took k (call h (rest ++ b ∷ []) bs))
