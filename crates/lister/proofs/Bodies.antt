-- A message that is closed off is good where its body begins with a letter and says something good; so none starts where no
-- letter stands behind the caret.
-- Its bytes are a caret, inner bytes and a semicolon, which is all that a message asks beside the letter. Assumes nothing.
use Prim.Native.Nat.{ℕ, suc, ◌+◌, ◌-◌, ◌≤◌, ◌<◌}
use mathlib.Core.Path.{◌≡◌, refl, sym, ap, ◌∙◌}
use mathlib.Core.Bool.{true, false, ◌&&◌, false≢true}
use mathlib.Core.List.{List, [], ◌∷◌}
use mathlib.Core.Logic.{⊎_elim}
use native.Mathlib.Omega.{arith}
use native.Mathlib.Nat.{eq-zero-or-pos}
use lib.ListN.{length, take, drop, get_or, length-take, length-drop}
use lib.Seq.{get_or-take, get_or-drop, take-nil, take-take, length-take-le}
use Rattle.rules.specs.Bytes.{every, first, part}
use Rattle.rules.specs.Messages.{is_body_byte, is_letter, is_message, body_of}
use Rattle.rules.specs.Answers.{is_good, read_body, read_family4, read_one}
use Rattle.frame_laws.proofs.Bytes.{answer}
use Rattle.kpa.proofs.Frames.{Framed, framed, not_framed, is-message}
use Rattle.stream_rules.specs.Heads.{message_brackets, head}
use Rattle.stream_laws.proofs.Course.{passed}
use Rattle.stream_laws.proofs.Heads.{good_head}
use Rattle.stream_laws.proofs.Runs.{run_take, all_run}
use Rattle.stream_laws.proofs.Starts.{NotGood}
use Rattle.lister.specs.GoodLengths.{Enclosed}

-- no letter behind the caret: none starts here
pub not_letter : (bs : List ℕ) → is_letter (get_or bs 1 0) ≡ false → NotGood (head 4 bs)
unfolding read_one read_family4
not_letter bs none n f e =
    let read = (good_head 4 bs n f e).read in
    let whole = framed (take n bs) (passed (is_message (take n bs)) _ _ f read).0 in
    let there : 1 ≤ n - 1 = omega (arith, whole.low, length-take n bs) in
    false≢true (sym none ∙ ap is_letter (sym (get_or-take n bs 1 0 (omega (arith, there)))) ∙ whole.letter)

-- behind the first byte of a front
behind_first : (m : ℕ) (s : List ℕ) → drop 1 (take (suc m) s) ≡ take m (drop 1 s)
behind_first m [] = sym (take-nil m)
behind_first m (b ∷ s) = refl

module _ (s : List ℕ) (n : ℕ) (e : Enclosed 4 n s) where
  abbrev t : List ℕ
  t = take (n + 2) s

  abbrev body : List ℕ
  body = part 1 n s

  size : length t ≡ n + 2
  size = length-take-le (n + 2) s e.there

  its_body : body_of t ≡ body
  its_body =
      let cut : length t - 2 ≡ n = omega (arith, size) in
      let two : n + 2 ≡ suc (n + 1) = omega arith in
      ap (λ (k : ℕ). take k (drop 1 t)) cut
      ∙ ap (λ (k : ℕ). take n (drop 1 (take k s))) two
      ∙ ap (take n) (behind_first (n + 1) s)
      ∙ take-take n (n + 1) (drop 1 s) (omega arith)

  inner : every is_body_byte body ≡ true
  unfolding is_body_byte
  inner = all_run message_brackets body (omega (arith, run_take message_brackets n (drop 1 s), e.is_run, length-take n (drop 1 s), length-drop 1 s, e.there))

  -- with a letter in front it is framed as a message is, and only then
  is_framed : is_letter (first body) ≡ true → Framed t
  unfolding is_letter
  is_framed letter =
      let some : 0 < n = ⊎_elim (λ none. absurd (no_byte none letter)) (λ h. h) (eq-zero-or-pos n) in
      let last : length t - 1 ≡ n + 1 = omega (arith, size) in
      record {
        low = omega (arith, size, some);
        high = omega (arith, size, e.fits);
        caret = get_or-take (n + 2) s 0 0 (omega arith) ∙ e.opens;
        semicolon = ap (λ (k : ℕ). get_or t k 0) last ∙ get_or-take (n + 2) s (n + 1) 0 (omega arith) ∙ e.closes;
        letter = ap is_letter (get_or-take (n + 2) s 1 0 (omega arith) ∙ sym (get_or-drop 1 s 0 0) ∙ sym (get_or-take n (drop 1 s) 0 0 some)) ∙ letter;
      }
    where
      no_byte : n ≡ 0 → is_letter (first (part 1 n s)) ≡ true → ⊥
      no_byte none l = false≢true (ap (λ (k : ℕ). is_letter (first (part 1 k s))) (sym none) ∙ l)

  its_letter : Framed t → is_letter (first body) ≡ true
  its_letter f =
      let some : 0 < n = omega (arith, f.low, size) in
      ap is_letter (get_or-take n (drop 1 s) 0 0 some ∙ get_or-drop 1 s 0 0 ∙ sym (get_or-take (n + 2) s 1 0 (omega arith))) ∙ f.letter

  pub body_tells : (is_letter (first body) && is_good (read_body body)) ≡ is_good (read_one 4 t)
  unfolding read_one read_family4
  body_tells =
      ⊎_elim
      (λ (l : is_letter (first body) ≡ true).
      let message : is_message t ≡ true = is-message t (is_framed l) ∙ ap (every is_body_byte) its_body ∙ inner in
      rw (l, message, its_body))
      (λ (l : is_letter (first body) ≡ false). rw (l, not_framed t (λ f. false≢true (sym l ∙ its_letter f))))
      (answer (is_letter (first body)))
