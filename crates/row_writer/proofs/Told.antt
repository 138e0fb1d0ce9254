-- What is given as a frame has the kind, the code and the values that it was given by: the values are the first of the row, as
-- many as the frame has. A status report has no code. Assumes nothing.
use Prim.Native.Nat.{ℕ, zero, suc, ◌+◌, ◌≤◌}
use mathlib.Core.Path.{◌≡◌, refl, sym, ap, ap₂, subst, ◌∙◌}
use mathlib.Core.Bool.{Bool, true, false, ◌&&◌, cond}
use mathlib.Core.List.{List, [], ◌∷◌, ◌++◌}
use native.Mathlib.Omega.{arith}
use borrow.Author.Tests.{leb-true, eqb-true}
use lib.Dec.{eqb, leb}
use lib.IntN.{ℤ, pos, negsuc}
use lib.ListN.{length, take, drop}
use lib.Seq.{take-add, take-suc, drop-cons}
use Rattle.rules.specs.Bytes.{every}
use Rattle.rules.specs.Sentences.{numbers02, numbers03}
use Rattle.rules.specs.Messages.{behind}
use Rattle.rules.specs.Answers.{message_kind, kind_of, values}
use Rattle.rules.specs.declared.Behind.{Behind}
use Rattle.rules.specs.declared.Behind.TheVariants.{ANumber, AVersion, AClock, Alone, Anything}
use Rattle.rules.specs.declared.Message as MessageType
use Rattle.rules.specs.declared.Kind.TheVariants.{OfResponse}
use Rattle.rules.specs.declared.Frame.{Frame}
use Rattle.rules.specs.declared.Frame.TheVariants.{Status, Apa02, Apa03, Apa05, Message}
use Rattle.frame_laws.proofs.Bytes.{both, every_split}
use Rattle.frame_laws.proofs.Listed.{version_word, clock_word, alone_word}
use Rattle.rows.specs.Rows.{status_row, kind_row, code_of}
use Rattle.std.specs.Prelude.{Option, Some, None}
use Rattle.row_writer.specs.Given.{at_most, byte_limit, word_limit, number_up_to, a_temperature, temperature_of, value_at, is_status_row, is_row_of, is_row03, status_from, from02, from03, from05, clock_from, sentence_given, behind_given, response_given, frame_given}

pub record Told (kind code : ℕ) (vs : List ℤ) (f : Frame) : Type 0 where
  pub same_kind : kind_row (kind_of f) ≡ kind
  pub same_code : code_of (kind_of f) ≡ cond (eqb kind status_row) 0 code
  pub enough : length (values f) ≤ length vs
  pub same_values : values f ≡ take (length (values f)) vs

-- The numbers in so many fields from a place on are the values there, if these fit.
kept_value : (limit : ℕ) (v : ℤ) → at_most limit v ≡ true → pos (number_up_to limit v) ≡ v
kept_value limit (pos n) e = rw e
kept_value limit (negsuc n) e = absurd (let z : ◌≡◌ {A = ℕ} 0 1 = cc in omega arith)

module _ (limit : ℕ) (vs : List ℤ) where
  abbrev fields_at : ℕ → ℕ → List ℤ
  fields_at i zero = []
  fields_at i (suc n) = pos (number_up_to limit (value_at vs i)) ∷ fields_at (suc i) n

  kept_values : (i n : ℕ) → i + n ≤ length vs → every (at_most limit) (take n (drop i vs)) ≡ true → fields_at i n ≡ take n (drop i vs)
  kept_values i zero h e = refl
  kept_values i (suc n) h e =
      let cut : drop i vs ≡ value_at vs i ∷ drop (suc i) vs = drop-cons vs i (pos 0) (omega (arith, h)) in
      let test = every_split (at_most limit) (value_at vs i) (take n (drop (suc i) vs)) (rw cut at e) in
      ap₂ (λ (v : ℤ) (rest : List ℤ). v ∷ rest) (kept_value limit (value_at vs i) test.0) (kept_values (suc i) n (omega (arith, h)) test.1)
      ∙ sym (ap (take (suc n)) cut)

-- A row that fits as a whole.
fitting_row : (count limit : ℕ) (vs : List ℤ) → is_row_of count limit vs ≡ true → (count ≤ length vs) × (fields_at limit vs 0 count ≡ take count vs)
unfolding is_row_of
fitting_row count limit vs e =
    let h = both (leb count (length vs)) (every (at_most limit) (take count vs)) e in
    let long = leb-true count (length vs) h.0 in
    (long, kept_values limit vs 0 count (omega (arith, long)) h.1)

-- The records.
told02 : (vs : List ℤ) → is_row_of 13 word_limit vs ≡ true → Told 4 2 vs (Apa02 (from02 vs))
unfolding from02 numbers02
told02 vs e =
    let h = fitting_row 13 word_limit vs e in
    record { same_kind = refl; same_code = refl; enough = h.0; same_values = h.1 }

told05 : (vs : List ℤ) → is_row_of 11 byte_limit vs ≡ true → Told 4 5 vs (Apa05 (from05 vs))
unfolding from05
told05 vs e =
    let h = fitting_row 11 byte_limit vs e in
    record { same_kind = refl; same_code = refl; enough = h.0; same_values = h.1 }

told03 : (vs : List ℤ) → is_row03 vs ≡ true → Told 4 3 vs (Apa03 (from03 vs))
unfolding from03 numbers03 is_row03
told03 vs e =
    let h = both (leb 9 (length vs) && every (at_most word_limit) (take 8 vs)) (a_temperature (value_at vs 8)) e in
    let g = both (leb 9 (length vs)) (every (at_most word_limit) (take 8 vs)) h.0 in
    let long = leb-true 9 (length vs) g.0 in
    let temp : temperature_of (value_at vs 8) ≡ value_at vs 8 = rw h.1 in
    record {
      same_kind = refl;
      same_code = refl;
      enough = long;
      same_values = ap₂ (λ (a b : List ℤ). a ++ b) (kept_values word_limit vs 0 8 (omega (arith, long)) g.1) (ap (λ (t : ℤ). t ∷ []) temp)
          ∙ sym (take-suc vs 8 (pos 0) (omega (arith, long)));
    }

told_status : (code : ℕ) (vs : List ℤ) → is_status_row vs ≡ true → Told 2 code vs (Status (status_from vs))
unfolding status_from is_status_row
told_status code vs e =
    let signs = both (leb 21 (length vs) && every (at_most byte_limit) (take 10 vs) && every (at_most word_limit) (take 8 (drop 10 vs))) (every (at_most byte_limit) (take 3 (drop 18 vs))) e in
    let readings = both (leb 21 (length vs) && every (at_most byte_limit) (take 10 vs)) (every (at_most word_limit) (take 8 (drop 10 vs))) signs.0 in
    let settings = both (leb 21 (length vs)) (every (at_most byte_limit) (take 10 vs)) readings.0 in
    let long = leb-true 21 (length vs) settings.0 in
    let a = kept_values byte_limit vs 0 10 (omega (arith, long)) settings.1 in
    let b = kept_values word_limit vs 10 8 (omega (arith, long)) readings.1 in
    let c = kept_values byte_limit vs 18 3 (omega (arith, long)) signs.1 in
    record {
      same_kind = refl;
      same_code = refl;
      enough = long;
      same_values = ap₂ (λ (p q : List ℤ). p ++ q) (ap₂ (λ (p q : List ℤ). p ++ q) a b ∙ sym (take-add 10 8 vs)) c ∙ sym (take-add 18 3 vs);
    }

-- What holds of the frame that is given: by a test, or where none is.
module _ {f : Frame} {P : Type 0} where
  otherwise : (test : Bool) {x y : Option Frame} → (test ≡ true → x ≡ Some f → P) → (y ≡ Some f → P) → cond test x y ≡ Some f → P
  otherwise true then else e = then refl e
  otherwise false then else e = else e

  never : None ≡ Some f → P
  never e = cc

given_frame : {f g : Frame} → Some g ≡ Some f → g ≡ f
given_frame e = cc

-- what holds of the frame that is given where the row fits
fitting : {kind code : ℕ} {vs : List ℤ} {f : Frame} (test : Bool) {g : Frame} → (test ≡ true → Told kind code vs g) → cond test (Some g) None ≡ Some f → Told kind code vs f
fitting {kind} {code} {vs} test told = otherwise test (λ fits e. subst (Told kind code vs) (given_frame e) (told fits)) never

-- A sentence, by its number, and a response, by what may stand behind its letters.
told_sentence : (code : ℕ) (vs : List ℤ) (f : Frame) → sentence_given code vs ≡ Some f → Told 4 code vs f
unfolding sentence_given
told_sentence code vs f =
    otherwise (eqb code 2) (λ is. fitting (is_row_of 13 word_limit vs) (λ fits. rw (eqb-true code 2 is) (told02 vs fits)))
    (otherwise (eqb code 3) (λ is. fitting (is_row03 vs) (λ fits. rw (eqb-true code 3 is) (told03 vs fits)))
    (otherwise (eqb code 5) (λ is. fitting (is_row_of 11 byte_limit vs) (λ fits. rw (eqb-true code 5 is) (told05 vs fits)))
    never))

-- Values of one limit, of a response whose letters these are.
told_response : (letters count limit : ℕ) (vs : List ℤ) (m : MessageType.Message) → is_row_of count limit vs ≡ true
    → message_kind m ≡ OfResponse letters → values (Message m) ≡ fields_at limit vs 0 count → length (values (Message m)) ≡ count → Told 8 letters vs (Message m)
told_response letters count limit vs m fits of fields long =
    let h = fitting_row count limit vs fits in
    record {
      same_kind = ap kind_row of;
      same_code = ap code_of of;
      enough = omega (arith, long, h.0);
      same_values = fields ∙ h.1 ∙ ap (λ (n : ℕ). take n vs) (sym long);
    }

told_behind : (letters : ℕ) (vs : List ℤ) (f : Frame) (b : Behind) → behind letters ≡ b → behind_given b letters vs ≡ Some f → Told 8 letters vs f
unfolding clock_from
told_behind letters vs f (ANumber width limit) is = fitting (is_row_of 1 word_limit vs) (λ fits. told_response letters 1 word_limit vs _ fits refl refl refl)
told_behind letters vs f AVersion is =
    fitting (is_row_of 2 byte_limit vs) (λ fits. told_response letters 2 byte_limit vs _ fits (ap OfResponse (sym (version_word letters is))) refl refl)
told_behind letters vs f AClock is =
    fitting (is_row_of 6 byte_limit vs) (λ fits. told_response letters 6 byte_limit vs _ fits (ap OfResponse (sym (clock_word letters is))) refl refl)
told_behind letters vs f Alone is =
    λ e.
    let of = ap OfResponse (sym (alone_word letters is)) in
    subst (Told 8 letters vs) (given_frame e) (record { same_kind = refl; same_code = ap code_of of; enough = omega arith; same_values = refl })
told_behind letters vs f Anything is = never

-- a frame without values
told_code : {kind code : ℕ} {vs : List ℤ} {f g : Frame} → kind_row (kind_of g) ≡ kind → code_of (kind_of g) ≡ cond (eqb kind status_row) 0 code → values g ≡ [] → Some g ≡ Some f
    → Told kind code vs f
told_code {kind} {code} {vs} {f} {g} same is none e =
    subst (Told kind code vs) (given_frame e)
    (record {
      same_kind = same;
      same_code = is;
      enough = omega (arith, ap length none);
      same_values = none ∙ ap (λ (l : List ℤ). take (length l) vs) (sym none);
    })

-- All kinds.
pub given_told : (kind code : ℕ) (vs : List ℤ) (f : Frame) → frame_given kind code vs ≡ Some f → Told kind code vs f
unfolding frame_given response_given
given_told kind code vs f =
    otherwise (eqb kind 1) (λ is. rw (eqb-true kind 1 is) (told_code refl refl refl))
    (otherwise (eqb kind 2) (λ is. rw (eqb-true kind 2 is) (fitting (is_status_row vs) (told_status code vs)))
    (otherwise (eqb kind 3) (λ is. rw (eqb-true kind 3 is) (told_code refl refl refl))
    (otherwise (eqb kind 4) (λ is. rw (eqb-true kind 4 is) (told_sentence code vs f))
    (otherwise (eqb kind 7) (λ is. rw (eqb-true kind 7 is) (told_code refl refl refl))
    (otherwise (eqb kind 8) (λ is. rw (eqb-true kind 8 is) (told_behind code vs f (behind code) refl))
    never)))))
