-- The first bytes of a sentence: behind `$` stands its name, a letter A first, and its fifth byte there is a digit. So no good
-- sentence starts where they are others.
-- Assumes nothing.
use Prim.Native.Nat.{ℕ, ◌+◌, ◌-◌, ◌≤◌, ◌<◌}
use Rattle.std.specs.Prelude.{Ok}
use Prim.Native.Char.{code}
use mathlib.Core.Path.{◌≡◌, sym, ap, ◌∙◌}
use mathlib.Core.Bool.{true}
use mathlib.Core.List.{List}
use native.Mathlib.Omega.{arith}
use lib.ListN.{length, take, drop, get_or, length-take, length-drop}
use lib.Seq.{get_or-take, get_or-drop}
use Rattle.rules.specs.Bytes.{ascii, part, every}
use Rattle.rules.specs.Sentences.{is_payload, is_sentence, payload_of}
use Rattle.rules.specs.Numbers.{is_digit}
use Rattle.rules.specs.Answers.{read_one, read_family2}
use Rattle.rules.specs.declared.Frame.{Frame}
use Rattle.frame_laws.proofs.Bytes.{tests, same_eq, between_bounds}
use Rattle.alpha.proofs.Bounds.{each}
use Rattle.stream_rules.specs.Heads.{head}
use Rattle.stream_laws.proofs.Course.{passed}
use Rattle.stream_laws.proofs.Heads.{good_head}
use Rattle.stream_laws.proofs.Starts.{NotGood}

module _ (bs : List ℕ) (n : ℕ) (f : Frame) (read : read_one 2 (take n bs) ≡ Ok f) where
  abbrev payload : List ℕ
  payload = payload_of (take n bs)

  good : is_sentence (take n bs) ≡ true
  unfolding read_one read_family2
  good = (passed (is_sentence (take n bs)) _ _ f read).0

  long : 5 ≤ length payload
  unfolding is_sentence is_payload
  long = let is-good = good in (between_bounds 5 128 (length payload) (search tests)).0

  -- its bytes stand behind the first
  behind : (i : ℕ) → i < 5 → get_or payload i 0 ≡ get_or bs (1 + i) 0
  behind i low =
      let t = take n bs in
      let size = length-take (length t - 6) (drop 1 t) in
      let there = length-take n bs in
      get_or-take (length t - 6) (drop 1 t) i 0 (omega (arith, size, long, low))
      ∙ get_or-drop 1 t i 0
      ∙ get_or-take n bs (1 + i) 0 (omega (arith, size, long, low, there))

  letter : get_or bs 1 0 ≡ code "A"
  unfolding is_sentence is_payload
  letter =
      let is-good = good in
      let name = same_eq (take 3 payload) (ascii "APA") (search tests) in
      sym (behind 0 (omega arith)) ∙ sym (get_or-take 3 payload 0 0 (omega arith)) ∙ ap (λ (l : List ℕ). get_or l 0 0) name

  digit : code "0" ≤ get_or bs 5 0
  unfolding is_sentence is_payload
  digit =
      let is-good = good in
      let digits : every is_digit (part 3 2 payload) ≡ true = search tests in
      let two : length (part 3 2 payload) ≡ 2 = omega (arith, length-take 2 (drop 3 payload), length-drop 3 payload, long) in
      let same : get_or (part 3 2 payload) 1 0 ≡ get_or bs 5 0 = get_or-take 2 (drop 3 payload) 1 0 (omega arith) ∙ get_or-drop 3 payload 1 0 ∙ behind 4 (omega arith) in
      omega (arith, same, (between_bounds (code "0") (code "9") (get_or (part 3 2 payload) 1 0) (each is_digit 0 (part 3 2 payload) 1 digits (omega (arith, two)))).0)

-- another letter, or no digit: none starts here
pub no_letter : (bs : List ℕ) → (get_or bs 1 0 ≡ code "A" → ⊥) → NotGood (head 2 bs)
no_letter bs other n f e = other (letter bs n f (good_head 2 bs n f e).read)

pub no_digit : (bs : List ℕ) → get_or bs 5 0 < code "0" → NotGood (head 2 bs)
no_digit bs low n f e = omega (arith, digit bs n f (good_head 2 bs n f e).read, low)
