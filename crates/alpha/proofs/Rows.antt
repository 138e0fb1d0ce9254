-- A row of fields, read one after the other: one field more, one that is missing or has no value, and the whole row.
-- Stated once, over what is read of a text. Assumes nothing.
use Rattle.std.proofs.Common.{◌≡◌, ℕ, ◌+◌, ◌<◌, List, [], ◌∷◌, ◌++◌, Option, Some, None, length, get_or, take, drop, set, refl, sym, ap, ◌∙◌, append_assoc}
use Rattle.std.proofs.Math.Seq.{drop-length, take-length}
use Rattle.std.proofs.lemmas.List.{append-nil, drop-drop, take_more_set}
use Rattle.rules.specs.Sentences.{behind_commas}
use Rattle.texts.proofs.Steps.{at}
use Rattle.alpha.specs.Fields.{Text, onto_row, row_in, Row}

-- values before a row
abbrev pub onto_values : {A : Type 0} → List A → Option (List A) → Option (List A)
onto_values vs None = None
onto_values vs (Some us) = Some (vs ++ us)

-- k fields are read: these are their values, and behind them stands the rest
pub record Sofar {A : Type 0} (read : ℕ → Text → Option A) (ws : List ℕ) (ts : List Text) (k : ℕ) (vs : List A) (rest : List ℕ) : Type 0 where
  pub values : row_in read ws ts ≡ onto_values (take k vs) (row_in read (drop k ws) (drop k ts))
  pub behind : behind_commas rest ≡ drop k ts

-- a value behind others is the last of them
one_behind : {A : Type 0} (vs : List A) (v : A) (row : Option (List A)) → onto_values vs (onto_row (Some v) row) ≡ onto_values (vs ++ v ∷ []) row
one_behind vs v None = refl
one_behind vs v (Some us) = ap Some (sym (append_assoc vs (v ∷ []) us))

module _ {A : Type 0} {read : ℕ → Text → Option A} {ws : List ℕ} {ts : List Text} {k : ℕ} {vs : List A} {rest : List ℕ}
    (so : Sofar read ws ts k vs rest) where
  module _ (h : k < length ws) where
    pub no_text : behind_commas rest ≡ [] → row_in read ws ts ≡ None
    unfolding row_in
    no_text e = so.values ∙ rw (at ws k h, ← so.behind, e)

    pub no_value : {t : Text} {us : List Text} → behind_commas rest ≡ t ∷ us → None ≡ read (get_or ws k 0) t → row_in read ws ts ≡ None
    unfolding row_in
    no_value e n = so.values ∙ rw (at ws k h, ← so.behind, e, ← n)

    pub one_more : {t : Text} (behind : List ℕ) {v : A} → behind_commas rest ≡ t ∷ behind_commas behind
        → Some v ≡ read (get_or ws k 0) t → k < length vs → Sofar read ws ts (k + 1) (set vs k v) behind
    unfolding row_in
    one_more behind {v} e n room =
        let next : behind_commas behind ≡ drop (k + 1) ts = ap (drop 1) (sym e ∙ so.behind) ∙ drop-drop 1 k ts in
        record {
          values =
              so.values
              ∙ rw (at ws k h, ← so.behind, e, ← n, next, take_more_set vs k v room) (one_behind (take k vs) v (row_in read (drop (k + 1) ws) (drop (k + 1) ts)));
          behind = next;
        }

  pub whole : k ≡ length ws → length vs ≡ length ws → Row read ws ts vs rest
  unfolding row_in
  whole e l =
      record {
        values = so.values ∙ rw (e, drop-length ws, ← l, take-length vs, append-nil);
        behind = so.behind ∙ rw e;
      }
