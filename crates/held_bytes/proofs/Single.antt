-- The promises of the functions that alter the held places leave one content: two that meet a promise are equal, for each names the
-- content. Assumes nothing.
use Prim.Native.Nat.{ℕ}
use mathlib.Core.Path.{◌≡◌}
use mathlib.Core.List.{List, []}
use Rattle.frame_laws.proofs.Single.{one_answer}
use Rattle.rules.specs.Bytes.{part}
use Rattle.stream_rules.specs.Streams.{filled}
use Rattle.pens.specs.Pens.{laid}

pub lay_single : (places : List ℕ) (at : ℕ) (few x y : List ℕ) → x ≡ laid at few places → y ≡ laid at few places → x ≡ y
lay_single places at few x y p q = one_answer p q

pub keep_part_single : (places : List ℕ) (a n : ℕ) (x y : List ℕ) → x ≡ filled (part a n places) → y ≡ filled (part a n places) → x ≡ y
keep_part_single places a n x y p q = one_answer p q

pub clear_single : (x y : List ℕ) → x ≡ filled [] → y ≡ filled [] → x ≡ y
clear_single x y p q = one_answer p q
