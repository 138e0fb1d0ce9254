-- What a family of brackets owes the rules of its starts: it is no family of SPE packets, and every good frame of it is an
-- opening byte, the run of inner bytes, a closing byte and as many more as stand behind it. Sentences and messages do, by
-- their definitions; a number that is no family has no good frame. Assumes nothing.
use Prim.Native.Nat.{ℕ, ◌+◌, ◌-◌, ◌≤◌}
use Rattle.rules.specs.declared.Refusal.TheVariants.{NoFamily}
use Rattle.std.specs.Prelude.{Err, Ok}
use Prim.Native.Char.{code}
use mathlib.Core.Path.{◌≡◌, refl, sym, ap, ◌∙◌}
use mathlib.Core.Bool.{Bool, true, false, ◌||◌, cond, false≢true}
use mathlib.Core.List.{List, ◌∷◌, [], ◌++◌, append_assoc}
use native.Mathlib.Omega.{arith}
use lib.Dec.{eqb, lit≤}
use lib.ListN.{length, take, drop, get_or, length-take, length-drop, length-append}
use lib.Seq.{get_or_at}
use borrow.Author.Tests.{eqb-true}
use Rattle.rules.specs.Bytes.{every}
use Rattle.rules.specs.Codes.{packet_length}
use Rattle.rules.specs.Status.{longest_report}
use Rattle.rules.specs.Sentences.{is_payload_byte, is_payload, is_sentence, payload_of, check_of}
use Rattle.rules.specs.Messages.{is_body_byte, is_body, is_message, body_of}
use Rattle.rules.specs.Answers.{replies, sentences, commands, messages, read_one, read_family2, read_family4}
use Rattle.rules.specs.declared.Frame.{Frame}
use Rattle.frame_laws.proofs.Bytes.{tests, same_eq, between_bounds}
use Rattle.stream_rules.specs.Heads.{is_spe, sentence_brackets, message_brackets, brackets_of, around, is_inner, longest, shortest, length_at}
use Rattle.stream_rules.specs.declared.Brackets.{Brackets}
use Rattle.stream_laws.proofs.Lists.{front_and_rest}
use Rattle.stream_laws.proofs.Course.{passed}
use Rattle.stream_laws.proofs.Runs.{run, run_up_to}

-- a frame between brackets at the head, of which n bytes are the whole, and no fewer than `least`
pub record Between (k : Brackets) (least : ℕ) (bs : List ℕ) (n : ℕ) : Type 0 where
  pub opens : get_or bs 0 0 ≡ k.opening
  pub fits : run k bs ≤ k.most
  pub closes : get_or bs (run k bs + 1) 0 ≡ k.closing
  pub size : length (take n bs) ≡ around k (run k bs)
  pub long : least ≤ around k (run k bs)

-- A front that is an opening byte, inner bytes p, a closing byte and a tail is such a frame.
module _ (k : Brackets) (least : ℕ) (bs p tail : List ℕ) (n : ℕ) (frame : take n bs ≡ k.opening ∷ p ++ k.closing ∷ tail)
    (inner : every (is_inner k) p ≡ true) (stops : is_inner k k.closing ≡ false) (behind : length tail ≡ k.tail) where
  whole : bs ≡ (k.opening ∷ p) ++ k.closing ∷ (tail ++ drop n bs)
  whole = front_and_rest bs n _ frame ∙ append_assoc (k.opening ∷ p) (k.closing ∷ tail) (drop n bs)

  is_run : run k bs ≡ length p
  is_run = ap (run k) whole ∙ run_up_to k k.opening p k.closing (tail ++ drop n bs) inner stops

  pub between : length p ≤ k.most → least ≤ around k (length p) → Between k least bs n
  between fits long = record {
    opens = ap (λ (l : List ℕ). get_or l 0 0) whole;
    fits = omega (arith, is_run);
    closes = ap (λ (l : List ℕ). get_or l (run k bs + 1) 0) whole
        ∙ get_or_at (k.opening ∷ p) k.closing (tail ++ drop n bs) 0 (run k bs + 1) (omega (arith, is_run));
    size = omega (arith, is_run, behind, ap length frame, length-append p (k.closing ∷ tail));
    long = omega (arith, is_run, long);
  }

-- What a family of brackets owes.
pub record Bracketed (family : ℕ) : Type 0 where
  pub no_spe : is_spe family ≡ false
  pub good_start : (bs : List ℕ) (n : ℕ) (f : Frame) → read_one family (take n bs) ≡ Ok f → Between (brackets_of family) (shortest family) bs n

sentence_start : (bs : List ℕ) (n : ℕ) (f : Frame) → read_one sentences (take n bs) ≡ Ok f → Between (brackets_of sentences) (shortest sentences) bs n
unfolding read_one read_family2 is_sentence is_payload is_payload_byte
sentence_start bs n f e =
    let t = take n bs in
    let sentence = (passed (is_sentence t) _ _ f e).0 in
    let p = payload_of t in
    let check = check_of t in
    let frame : t ≡ code "$" ∷ p ++ code "*" ∷ check = same_eq t _ (search tests) in
    let payload : every is_payload_byte p ≡ true = search tests in
    let bounds = between_bounds 5 128 (length p) (search tests) in
    let four : length check ≡ 4 = omega (arith, length-drop (length t - 4) t, length-take (length t - 6) (drop 1 t), length-drop 1 t) in
    between (brackets_of sentences) (shortest sentences) bs p check n frame payload refl four (omega arith) (omega arith)

message_start : (bs : List ℕ) (n : ℕ) (f : Frame) → read_one messages (take n bs) ≡ Ok f → Between (brackets_of messages) (shortest messages) bs n
unfolding read_one read_family4 is_message is_body is_body_byte
message_start bs n f e =
    let t = take n bs in
    let message = (passed (is_message t) _ _ f e).0 in
    let p = body_of t in
    let frame : t ≡ code "^" ∷ p ++ code ";" ∷ [] = same_eq t _ (search tests) in
    let body : every is_body_byte p ≡ true = search tests in
    let bounds = between_bounds 1 38 (length p) (search tests) in
    between (brackets_of messages) (shortest messages) bs p [] n frame body refl refl (omega arith) (omega arith)

-- A number stands for a family of SPE packets, or owes this: families 1 and 3, or any other.
pub bracketed : (family : ℕ) → is_spe family ≡ false → Bracketed family
unfolding read_one
bracketed family no_spe = by (eqb family replies) (eqb family sentences) (eqb family commands) (eqb family messages) refl refl refl refl
  where
    by : (a b c d : Bool) → eqb family replies ≡ a → eqb family sentences ≡ b → eqb family commands ≡ c → eqb family messages ≡ d → Bracketed family
    by true b c d p q r s = let z : is_spe family ≡ true = rw p in absurd (false≢true (rw no_spe at z))
    by false b true d p q r s = let z : is_spe family ≡ true = rw (p, r) in absurd (false≢true (rw no_spe at z))
    by false true false d p q r s = rw (eqb-true family sentences q) record { no_spe = refl; good_start = sentence_start }
    by false false false true p q r s = rw (eqb-true family messages s) record { no_spe = refl; good_start = message_start }
    by false false false false p q r s = record { no_spe = no_spe; good_start = λ bs n f e. absurd (none (rw (p, q, r, s) at e)) }
      where
        none : {f : Frame} → Err NoFamily ≡ Ok f → ⊥
        none e = let z : ◌≡◌ {A = ℕ} 0 1 = cc in omega arith

-- Its longest frame is that of the brackets, and so is the length that a start declares.
module _ (family : ℕ) (is : Bracketed family) where
  pub longest_is : longest family ≡ around (brackets_of family) (brackets_of family).most
  longest_is = by (eqb family replies) (eqb family commands) is.no_spe
    where
      by : (a c : Bool) → (a || c) ≡ false
          → cond a longest_report (cond c packet_length (around (brackets_of family) (brackets_of family).most)) ≡ around (brackets_of family) (brackets_of family).most
      by true c e = absurd (false≢true (sym e))
      by false true e = absurd (false≢true (sym e))
      by false false e = refl

  pub length_is : (bs : List ℕ) → length_at family bs ≡ around (brackets_of family) (run (brackets_of family) bs)
  length_is bs = rw is.no_spe

-- No brackets hold more than 128 bytes, or have more than four behind them.
pub small : (family : ℕ) → ((brackets_of family).most ≤ 128) × ((brackets_of family).tail ≤ 4)
small family = by (eqb family messages)
  where
    by : (b : Bool) → let k = cond b message_brackets sentence_brackets in (k.most ≤ 128) × (k.tail ≤ 4)
    by true = (lit≤ tt, lit≤ tt)
    by false = (lit≤ tt, lit≤ tt)
