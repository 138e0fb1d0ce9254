-- The promise of a call with its row leaves one number, one reader and one row: two results that meet it are equal.
-- Assumes nothing.
use Prim.Native.Nat.{ℕ}
use mathlib.Core.Path.{◌≡◌, sym, ◌∙◌}
use mathlib.Core.List.{List}
use lib.IntN.{ℤ}
use Rattle.stream_rules.specs.declared.Reader.{Reader}
use Rattle.rows.proofs.Single.{lays_single, outcome_single}
use Rattle.rows.specs.Rows.{outcome_number}
use Rattle.rules.specs.declared.Refusal.{Refusal}
use Rattle.std.specs.Prelude.{Result}
use Rattle.row_stream.specs.FedRows.{FeedsRow}

pub feeds_single : (reader : Reader) (offered : List ℕ) (numbers : List ℤ) (a b : ℕ) (x y : Reader) (l m : List ℤ)
    → FeedsRow reader offered numbers a x l → FeedsRow reader offered numbers b y m
    → (a ≡ b) × (x ≡ y) × (l ≡ m)
feeds_single reader offered numbers a b x y l m p q =
    let laid = lays_single _ _ numbers a b l m p.lays q.lays in
    (laid.0, p.leaves ∙ rw laid.0 (sym q.leaves), laid.1)

-- the same by an outcome, which its number tells
pub feeds_at_single : (reader : Reader) (offered : List ℕ) (numbers : List ℤ) (a b : Result Unit Refusal) (x y : Reader) (l m : List ℤ)
    → FeedsRow reader offered numbers (outcome_number a) x l → FeedsRow reader offered numbers (outcome_number b) y m
    → (a ≡ b) × (x ≡ y) × (l ≡ m)
feeds_at_single reader offered numbers a b x y l m p q =
    let same = feeds_single reader offered numbers (outcome_number a) (outcome_number b) x y l m p q in
    (outcome_single a b same.0, same.1, same.2)
