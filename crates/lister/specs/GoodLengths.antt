-- How long the good frame at the head of some bytes is, and which starts a walk passes over.
use Rattle.std.specs.Prelude.{ℕ, min, ◌+◌, ◌≤◌, ◌<◌, ◌≡◌, true, false, List, length, drop, get_or, Option, Some, None}
use Rattle.rules.specs.Answers.{is_family}
use Rattle.stream_rules.specs.Heads.{is_spe, brackets_of, around, inner_run, head}
use Rattle.stream_rules.specs.Rule.{by_head}
use Rattle.lister.specs.declared.steps.Step as StepType
use Rattle.lister.specs.declared.steps.Step.TheVariants.{Frame, Over}

-- how long the good frame at the head is
abbrev pub good_length : ℕ → List ℕ → Option ℕ
good_length family bs = by_head (head family bs) None None (λ n f. Some n)

-- no frame stands at the starts from a place on and before another
pub record Passes (family : ℕ) (bs : List ℕ) (from to : ℕ) : Type 0 where
  pub on : from ≤ to
  pub within : to ≤ length bs
  pub none : (j : ℕ) → from ≤ j → j < to → None ≡ good_length family (drop j bs)

-- what a step at a place comes to: the length of the good frame there, or the next start that may be good
abbrev pub StepsTo : ℕ → List ℕ → ℕ → StepType.Step → Type 0
StepsTo family bs at (Frame n) = Some n ≡ good_length family (drop at bs)
StepsTo family bs at (Over to) = (at < to) × Passes family bs at to

-- a family of brackets
abbrev pub IsBracketed : ℕ → Type 0
IsBracketed family = (is_spe family ≡ false) × (is_family family ≡ true)

-- so many inner bytes stand behind an opening one, counted to one more than may
pub record Counts (family n : ℕ) (bs : List ℕ) : Type 0 where
  pub some : 0 < length bs
  pub opens : get_or bs 0 0 ≡ (brackets_of family).opening
  pub counted : n ≡ min (length (inner_run (brackets_of family) (drop 1 bs))) ((brackets_of family).most + 1)

-- a frame between brackets as far as these go: the opening byte, n inner bytes and no more than may be, the closing byte, and
-- as many behind it as there have to be
pub record Enclosed (family n : ℕ) (bs : List ℕ) : Type 0 where
  pub fits : n ≤ (brackets_of family).most
  pub there : around (brackets_of family) n ≤ length bs
  pub is_run : length (inner_run (brackets_of family) (drop 1 bs)) ≡ n
  pub opens : get_or bs 0 0 ≡ (brackets_of family).opening
  pub closes : get_or bs (n + 1) 0 ≡ (brackets_of family).closing
