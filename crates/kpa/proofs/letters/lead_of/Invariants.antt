-- `kpa::letters::lead_of` meets its contract. The loop's invariant: the run is `count` letters, four at most, and those that the bytes
-- from there on begin with; its number is `word`, read on with these.
-- Assumes nothing.
use Prim.Native.Nat.{ℕ, ◌+◌, ◌^◌, ◌≤◌, ◌<◌}
use mathlib.Core.Path.{◌≡◌}
use mathlib.Core.List.{List}
use lib.ListN.{length, drop}
use Rattle.rules.specs.Messages.{letter_run, letters_in, word_from, word}
use Rattle.kpa.proofs.letters.lead_of.Given as goal

-- what has been read of a body before place i
pub record Read (body : List ℕ) (w i : ℕ) : Type 0 where
  pub few : i ≤ 4
  pub fits : w < 256 ^ i
  pub run : length (letter_run body) ≡ i + length (letter_run (drop i body))
  pub so_far : word (letters_in body) ≡ word_from w (letters_in (drop i body))

abbrev pub invariant-loop-count : goal.invariant-loop-count
invariant-loop-count l = Read l.body l.word l.count
