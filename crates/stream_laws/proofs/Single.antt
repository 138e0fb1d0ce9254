-- Each promise of a stream and of the lister leaves one possible answer and one possible content of lent memory: two results
-- that meet it are equal. Assumes nothing.
use Prim.Native.Nat.{ℕ}
use Rattle.rules.specs.declared.Refusal.{Refusal}
use Rattle.std.specs.Prelude.{Result}
use mathlib.Core.Path.{◌≡◌}
use mathlib.Core.List.{List}
use Rattle.frame_laws.proofs.Single.{one_answer}
use Rattle.stream_rules.specs.Streams.{Feeds, Shuts, Makes}
use Rattle.stream_rules.specs.Lister.{Lists}
use Rattle.stream_rules.specs.declared.Reader.{Reader}
use Rattle.stream_rules.specs.declared.Fed.{Fed}
use Rattle.stream_rules.specs.declared.Turned.{Turned}

-- a call, the close, and a fresh reader
pub fed_single : (r : Reader) (offered : List ℕ) (a b : Fed) → Feeds r offered a → Feeds r offered b → a ≡ b
fed_single r offered a b p q = one_answer p.answers q.answers

pub shut_single : (r : Reader) (a b : Turned) → Shuts r a → Shuts r b → a ≡ b
shut_single r a b p q = one_answer p.answers q.answers

pub fresh_single : (family : ℕ) (a b : Turned) → Makes family a → Makes family b → a ≡ b
fresh_single family a b p q = one_answer p.answers q.answers

-- the lister: its answer and the lent list
pub lists_single : (family : ℕ) (capture out : List ℕ) (a b : (Result ℕ Refusal)) (x y : List ℕ) → Lists family capture out a x → Lists family capture out b y
    → (a ≡ b) × (x ≡ y)
lists_single family capture out a b x y p q = (one_answer p.answers q.answers, one_answer p.content q.content)
