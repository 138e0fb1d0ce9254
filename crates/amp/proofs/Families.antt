-- A family number that is no byte is no family, and all that are none answer alike: what is answered for the byte is what is
-- answered for the number. One law, and each of the definitions by it.
-- Assumes nothing.
use Prim.Native.Nat.{ℕ, ◌<◌}
use Rattle.rules.specs.declared.Refusal.TheVariants.{NoFamily}
use Rattle.std.specs.Prelude.{Err, None}
use mathlib.Core.Path.{◌≡◌, refl, sym, ◌∙◌}
use mathlib.Core.Bool.{Bool, true, false, cond}
use mathlib.Core.List.{List}
use native.Mathlib.Omega.{arith}
use borrow.Author.Tests.{leb-false, ne_eqb}
use lib.Dec.{leb}
use Rattle.rules.specs.Bytes.{one_of}
use Rattle.rules.specs.Answers.{is_family, read_one}
use Rattle.frame_laws.proofs.Saying.{no-family}
use Rattle.stream_rules.specs.Streams.{fresh}
use Rattle.stream_rules.specs.Lister.{listed, list_left}
use Rattle.stream_laws.proofs.States.{fresh_1}
use Rattle.captures.specs.Finds.{next_in}

above : (family : ℕ) → 255 < family → is_family family ≡ false
unfolding one_of
above family h = rw (ne_eqb family 1 (omega arith), ne_eqb family 2 (omega arith), ne_eqb family 3 (omega arith), ne_eqb family 4 (omega arith))

module _ (family byte : ℕ) (e : byte ≡ cond (leb family 255) family 0) where
  by_byte : {A : Type 0} (f : ℕ → A) (none : A) → ((n : ℕ) → is_family n ≡ false → f n ≡ none) → f byte ≡ f family
  unfolding one_of
  by_byte {A} f none same = rw e (go (leb family 255) refl)
    where
      none_0 : is_family 0 ≡ false
      none_0 = refl

      go : (b : Bool) → leb family 255 ≡ b → f (cond b family 0) ≡ f family
      go true p = refl
      go false p = same 0 none_0 ∙ sym (same family (above family (leb-false family 255 p)))

  pub fresh_byte : fresh byte ≡ fresh family
  fresh_byte = by_byte fresh _ (λ n h. fresh_1 n h)

  pub read_byte : (bytes : List ℕ) → read_one byte bytes ≡ read_one family bytes
  read_byte bytes = by_byte (λ (n : ℕ). read_one n bytes) (Err NoFamily) (λ n h. no-family n bytes h)

  pub listed_byte : (capture starts : List ℕ) → listed byte capture starts ≡ listed family capture starts
  listed_byte capture starts = by_byte (λ (n : ℕ). listed n capture starts) (Err NoFamily) (λ n h. rw h)

  pub left_byte : (capture starts : List ℕ) → list_left byte capture starts ≡ list_left family capture starts
  left_byte capture starts = by_byte (λ (n : ℕ). list_left n capture starts) starts (λ n h. rw h)

  pub next_byte : (capture : List ℕ) (place : ℕ) (reports : Bool) → next_in byte capture place reports ≡ next_in family capture place reports
  unfolding next_in
  next_byte capture place reports = by_byte (λ (n : ℕ). next_in n capture place reports) None (λ n h. rw h)
