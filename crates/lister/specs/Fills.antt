-- How many frames a capture holds, and their starts at the front of a list, its rest unchanged, where it has places for them.
use Rattle.std.specs.Prelude.{ℕ, ◌≤◌, ◌≡◌, List, ◌++◌, length, drop}
use Rattle.stream_rules.specs.Lister.{frames, starts_of}

pub record Fills (family : ℕ) (capture out : List ℕ) (n : ℕ) (after : List ℕ) : Type 0 where
  pub count : n ≡ length (frames family capture)
  pub content : length (frames family capture) ≤ length out → after ≡ starts_of (frames family capture) ++ drop (length (frames family capture)) out
