-- A reader is the record of its parts, and so is its relation to its machine value: where the reader's holds, each
-- part's does at the part's own machine value, and where each part's holds, the reader's does.     Parts r
-- each part's relation     parts, of_parts      each part's from the reader's, and the reader's from each part's
-- places           how many held places there are     low r            the machine values of the parts     held,
-- held_val, held_tells, held_plain       the held places as a field (`Fields`): their type, their machine value, that
-- they have no other, and that they own only facts
-- Assumes nothing.
use mathlib.Core.Path.{◌≡◌}
use Prim.Native.Nat.{ℕ}
use mathlib.Core.List.{List, [], ◌∷◌, map}
use lib.ListN.{length}
use mir.Syntax.{w8, w32, ty_int, ty_array}
use mir.Val.{Val, Vals, vint, vnil, vcons}
use denote.Array.{Array, array_val, Array-Tells}
use denote.Builtin.{u8, u32}
use denote.Laws.{Is, Tells, valss}
use denote.Plain.{uint_vals, uint_Tells}
use denote.Shadow.{Pure}
use denote.Struct.Declared.{fields}
use denote.Struct.Field.{u8-field}
use denote.Struct.Laws as LL
use denote.Struct.Members.{Member, row_of}
use denote.Struct.Struct.{AreAll}
use Rattle.stream_rules.specs.declared.Reader.{Reader}
use Rattle.stream_rules.specs.contracts.Reader as R
use Rattle.stream_rules.proofs.Reader.TheLaws as R'
use Rattle.stream.proofs.Behind.{vals, as_spelt}

abbrev pub held : Member
held = record { row = Array u8 133; ty = ty_array (ty_int w8) 133 }

abbrev pub held_val : List ℕ → Val
held_val xs = array_val (map (λ x. vint w8 x) xs)

pub held_tells : Tells (row_of held) (Is (row_of held)) (λ xs. held_val xs ∷ [])
held_tells = Array-Tells u8 (uint_vals w8) (uint_Tells w8) 133

pub held_plain : (xs : List ℕ) (us : List Val) → Pure (held.row.own_val xs us)
held_plain = LL.array_plain u8-field LL.u8-plain 133

abbrev pub low : Reader → Vals
low r = vcons (vint w8 r.family) (vcons (vint w8 r.closed) (vcons (vint w8 r.count) (vcons (held_val r.held) (vcons (vint w32 r.at) (vcons (vint w32 r.skipped) vnil)))))

pub record Parts (r : Reader) : Type 0 where
  pub family_is : Is u8 r.family (vint w8 r.family ∷ [])
  pub closed_is : Is u8 r.closed (vint w8 r.closed ∷ [])
  pub count_is : Is u8 r.count (vint w8 r.count ∷ [])
  pub held_is : Is (row_of held) r.held (held_val r.held ∷ [])
  pub at_is : Is u32 r.at (vint w32 r.at ∷ [])
  pub skipped_is : Is u32 r.skipped (vint w32 r.skipped ∷ [])

-- the relation of held places, at a list and at its machine value
abbrev Holds : List ℕ → Type 0
Holds xs = Is (row_of held) xs (held_val xs ∷ [])

pub parts : (r : Reader) → Is R.the_row r (vals r) → Parts r
parts r is = record {
  family_is = all.0;
  closed_is = all.1.0;
  count_is = all.1.1.0;
  held_is = all.1.1.1.0;
  at_is = all.1.1.1.1.0;
  skipped_is = all.1.1.1.1.1.0;
}
  where
    all : AreAll (fields R.the_type) ((R.the_type).to r) (valss (fields R.the_type) (LL.spells (R.the_type).parts R'.the_laws) ((R.the_type).to r))
    all = LL.owed R.the_type R'.the_laws r (vals r) is

-- there are as many held places as their type has
pub places : (r : Reader) → Parts r → length r.held ≡ 133
places r p = p.held_is.1.0.1

pub of_parts : (r : Reader) → Parts r → Is R.the_row r (vals r)
of_parts r p = as_spelt r (LL.vals R.the_type R'.the_laws r)
    (LL.owes R.the_type R'.the_laws r (p.family_is, (p.closed_is, (p.count_is, (p.held_is, (p.at_is, (p.skipped_is, tt)))))))
