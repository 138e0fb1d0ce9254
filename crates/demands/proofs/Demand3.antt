-- Demand 3 of each family, from its own facts: the theorems about sessions, about the rule and about the lister hold of
-- families 1 to 4. They speak of whatever meets the promises `Makes`, `Feeds`, `Shuts` and `Lists`, which the functions that
-- run meet.
-- Assumes nothing.
use Prim.Native.Nat.{ℕ}
use Rattle.rules.specs.declared.Refusal.{Refusal}
use Rattle.stream_rules.specs.declared.Progress.{Progress}
use Rattle.std.specs.Prelude.{Ok, Result}
use mathlib.Core.Path.{◌≡◌}
use mathlib.Core.Bool.{true}
use mathlib.Core.List.{List, map}
use lib.ListN.{length, take}
use Rattle.rules.specs.Answers.{is_family}
use Rattle.stream_rules.specs.Rule.{Found}
use Rattle.stream_rules.specs.Streams.{wrap, Makes}
use Rattle.stream_rules.specs.Lister.{frames, starts_of, Lists}
use Rattle.stream_rules.specs.declared.Turned.{Turned}
use Rattle.stream_laws.specs.Sessions.{Session, Following, stream_of, handed, Demand3}
use Rattle.stream_laws.specs.Earliest.{EarliestFirst}
use Rattle.stream_laws.proofs.Sessions as sessions
use Rattle.stream_laws.proofs.Possible as sessions-there
use Rattle.stream_laws.proofs.Earliest as earliest
use Rattle.stream_laws.proofs.Listing as listing
use Rattle.stream_laws.proofs.Families.{facts}

module _ (family : ℕ) (known : is_family family ≡ true) where
  -- The rule finds the good frame that begins earliest, then the one that begins earliest right behind it, and so on; and
  -- no other list of frames is so.
  pub rule_is_earliest_first : (stream : List ℕ) → EarliestFirst family stream 0 (frames family stream)
  rule_is_earliest_first = earliest.frames_earliest family (facts family)

  pub earliest_first_is_the_rule : (stream : List ℕ) (fs : List Found) → EarliestFirst family stream 0 fs → fs ≡ frames family stream
  earliest_first_is_the_rule = earliest.frames_only family (facts family)

  module _ (t : Turned) (begins : Makes family t) where
    -- However a stream is cut, there is a session that follows the cut, and it is one of those below.
    pub sessions_end : (pieces : List (List ℕ)) → (answers : List (Result Progress Refusal)) × Following t.reader pieces answers
    sessions_end = sessions-there.possible family known t begins

    pub following_is_session : (pieces : List (List ℕ)) (answers : List (Result Progress Refusal)) → Following t.reader pieces answers
        → (lengths : List ℕ) × Session t.reader (stream_of pieces) lengths answers
    following_is_session pieces answers = sessions-there.followed

    module _ (stream lengths : List ℕ) (answers : List (Result Progress Refusal)) (session : Session t.reader stream lengths answers) where
      -- Demand 3, of every session.
      pub every_session : Demand3 family stream answers
      every_session = sessions.demand3 family known (facts family) t begins stream lengths answers session

      -- The lister and the stream agree: modulo 2^32 on any stream, and just so on a capture.
      pub stream_starts : starts_of (handed answers) ≡ map wrap (starts_of (frames family stream))
      stream_starts = listing.starts_agree family known (facts family) t begins stream lengths answers session

      pub listed_starts : (out : List ℕ) (n : ℕ) (after : List ℕ) → Lists family stream out (Ok n) after
          → (n ≡ length (handed answers)) × (take n after ≡ starts_of (handed answers))
      listed_starts = listing.lister_agrees family known (facts family) t begins stream lengths answers session
