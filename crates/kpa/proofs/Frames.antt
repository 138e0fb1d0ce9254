-- The frame around a body: a caret, a semicolon, and a body of the right length that begins with a letter. What a message has,
-- and what makes one.
-- Assumes nothing.
use Prim.Native.Nat.{ℕ, suc, ◌+◌, ◌-◌, ◌≤◌}
use Rattle.rules.specs.declared.Refusal.TheVariants.{NotGood}
use Rattle.std.specs.Prelude.{Err}
use Rattle.std.specs.List.{list_all}
use mathlib.Core.Path.{◌≡◌, refl, sym, ap, ap₂, ◌∙◌}
use mathlib.Core.Bool.{Bool, true, false, ◌&&◌, and-true}
use mathlib.Core.List.{List, [], ◌∷◌, ◌++◌}
use mathlib.Core.Logic.{⊎_elim}
use native.Mathlib.Omega.{arith}
use lib.ListN.{length, drop, get_or, length-drop, take-append-drop}
use lib.Seq.{length-take-le, drop-drop, get_or_at, get_or-drop, get_or-take}
use Rattle.rules.specs.Bytes.{every, first, part}
use Rattle.rules.specs.Messages.{is_body_byte, is_letter, body_of, message_frame, is_body, is_message}
use Rattle.rules.specs.Answers.{read_body, read_family4}
use Rattle.frame_laws.proofs.Bytes.{tests, answer, between_bounds, bounds_between, eq_same}
use Rattle.frame_laws.proofs.Messages.{message-frame}
use Rattle.texts.proofs.Steps.{at as from_place, done}

-- The library's word for a test of each is the rules' `every`.
pub every_all : (test : ℕ → Bool) (bs : List ℕ) → list_all test bs ≡ every test bs
unfolding every
every_all test [] = refl
every_all test (b ∷ bs) = ap (λ (e : Bool). test b && e) (every_all test bs)

-- What a message has.
pub record Framed (bs : List ℕ) : Type 0 where
  pub low : 3 ≤ length bs
  pub high : length bs ≤ 40
  pub caret : get_or bs 0 0 ≡ 94
  pub semicolon : get_or bs (length bs - 1) 0 ≡ 59
  pub letter : is_letter (get_or bs 1 0) ≡ true

module _ (bs : List ℕ) where
  body_length : length (body_of bs) ≡ length bs - 2
  body_length = length-take-le (length bs - 2) (drop 1 bs) (omega (arith, length-drop 1 bs))

  first_byte : 3 ≤ length bs → first (body_of bs) ≡ get_or bs 1 0
  first_byte low = get_or-take (length bs - 2) (drop 1 bs) 0 0 (omega arith) ∙ get_or-drop 1 bs 0 0

  pub framed : is_message bs ≡ true → Framed bs
  unfolding is_message is_body
  framed e =
      let body = body_of bs in
      let size = between_bounds 1 38 (length body) (search tests) in
      let whole = message-frame bs e in
      let last : length bs - 1 ≡ suc (length bs - 2) = omega (arith, body_length) in
      record {
        low = omega (arith, body_length);
        high = omega (arith, body_length);
        caret = ap (λ (l : List ℕ). get_or l 0 0) whole;
        semicolon = ap (λ (l : List ℕ). get_or l (length bs - 1) 0) whole ∙ rw last (get_or_at body 59 [] 0 (length bs - 2) body_length);
        letter = rw (← first_byte (omega (arith, body_length))) (search tests);
      }

  pub not_framed : (Framed bs → ⊥) → is_message bs ≡ false
  not_framed h = ⊎_elim (λ e. absurd (h (framed e))) (λ e. e) (answer (is_message bs))

  module _ (f : Framed bs) where
    whole : bs ≡ message_frame (body_of bs)
    whole =
        let low = f.low in
        let to_last : 1 + (length bs - 2) ≡ length bs - 1 = omega arith in
        let to_end : length bs - 1 + 1 ≡ length bs = omega arith in
        let behind : drop (length bs - 2) (drop 1 bs) ≡ 59 ∷ [] = drop-drop (length bs - 2) 1 bs ∙ rw to_last (from_place bs (length bs - 1) (omega arith) ∙ rw (f.semicolon, to_end, done bs (length bs) (omega arith))) in
        from_place bs 0 (omega arith)
        ∙ ap₂ (λ (b : ℕ) (l : List ℕ). b ∷ l) f.caret
        (sym (take-append-drop (length bs - 2) (drop 1 bs)) ∙ ap (λ (l : List ℕ). body_of bs ++ l) behind)

    pub is-message : is_message bs ≡ every is_body_byte (body_of bs)
    unfolding is_message is_body
    is-message =
        let low = f.low in
        let high = f.high in
        rw (eq_same bs (message_frame (body_of bs)) whole, bounds_between 1 38 (length (body_of bs)) (omega (arith, body_length)) (omega (arith, body_length)), first_byte low, f.letter)
        (and-true (every is_body_byte (body_of bs)))

    -- the body as it is cut
    pub the_body : part 1 (length bs - 1 - 1) bs ≡ body_of bs
    the_body =
        let low = f.low in
        let e : length bs - 1 - 1 ≡ length bs - 2 = omega arith in
        rw e

  -- A message says what its body says.
  pub no_message : is_message bs ≡ false → Err NotGood ≡ read_family4 bs
  unfolding read_family4
  no_message e = rw e

  pub a_message : is_message bs ≡ true → read_body (part 1 (length bs - 1 - 1) bs) ≡ read_family4 bs
  unfolding read_family4
  a_message e = rw (the_body (framed e), e)
