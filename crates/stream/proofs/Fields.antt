-- One field of a struct is lent by `&mut` for one call, and taken back once the call has returned. It says nothing of
-- one struct or of one function: T is any declared struct, and lies in a cell at its MIR type, a local's or one behind
-- a reference whose borrow is open. The field's type is any that owns only facts.     typed, untyped   a cell behind a
-- reference stands at the raw form of its type. It is taken to the type itself, at which its fields are read and
-- written (`look_in`, `store_in`), and back     Without          what is left of the struct's cell while field k is
-- lent: the field's cell, with any value u, gives the struct's cell with u in its place     lends_field      field k of
-- the struct's cell, at x, is given up for a lifetime that is made here: its token, a `&mut` to the field at x, the
-- lender's part, and what is left of the struct's cell     takes_field      the token, the lender's part, what says
-- that y is the reference's last value, and what was left of the struct's cell give the struct's cell back: its field k
-- holds the machine value of y. The lifetime is ended here Each is a step of a walk, to be written between two
-- statements. Assumes `Logic`.
use mathlib.Core.Path.{◌≡◌, refl, subst}
use Prim.Native.Nat.{ℕ, zero, ◌+◌}
use mathlib.Core.Option.{some as found}
use mathlib.Core.List.{List, [], ◌∷◌}
use seplogic.Ra.Ura.{Ura}
use base.Fraction.{full_share}
use mir.Syntax.{Ty, named}
use mir.Raw.{raw as raw_ty}
use mir.Fields.{get_v, set_v}
use mir.Val.{Val, Vals, vptr, vstruct}
use base.Logic.{SProp, wand, all, all_e, apply∗}
use base.Fml.{GName, fsep, fat, flft, fres, flent}
use prog.Memory.{field_at}
use prog.Wp.{Heap}
use types.Logic.{Logic}
use types.Kit.{Goal, Soaks, Item, Seq, Step, ‵, raw, ◌⊛◌, some, later, ◌$◌, move, use1, use2, use3, drop, split, pick, rewrite, fsplit, fjoin, fpick, fpack, await}
use types.Tokens.{lft_new, lft_end}
use types.SemTy.{Body}
use denote.RattleType.{mirs}
use denote.Laws.{Is, Tells, shows}
use denote.Lend.{lends_ref, ref_back}
use denote.Memory.{cell_at, part_at, mem, part_of}
use denote.Ref.{MutBor, MutRef}
use denote.Shadow.{Pure, makes_shadow}
use denote.Steps.{owned, peeks}
use denote.Struct.Declared.{Declared, fields, shape}
use denote.Struct.Members.{Member, row_of}
use denote.Struct.Struct.{layout, to_tys}

-- the reference to what lies at (b, o), under the name γ
abbrev pub ref_at : {X : Type 0} → X → ℕ → ℕ → GName → MutBor X
ref_at x b o γ = record { ref_ptr = (b, o); ghost_name = γ; now = x }

-- field k of the struct is of the member's type, and lies at the offset d
abbrev pub Lies : Declared → ℕ → Member → ℕ → Type 0
Lies T k m d = field_at zero (to_tys (mirs (fields T))) k ≡ found (m.ty, d)

-- what is left of the cell at (b, o) of a struct with the fields vs, while field k, which is m at the offset d, is lent
unfoldable pub Without : {M : Type 1} (𝓤 : Ura M) (H : Heap 𝓤) → Declared → ℕ → Member → ℕ → Vals → ℕ → ℕ → SProp 𝓤
Without 𝓤 H T k m d vs b o = all 𝓤 (λ (u : Val). wand 𝓤 (H.at full_share m.ty b (o + d) u) (H.at full_share (layout (shape T)) b o (vstruct (set_v vs k u))))

module _ {M : Type 1} {𝓤 : Ura M} {𝓛 : Logic 𝓤} {K : Type 0} {Γ : List (Item 𝓤)} {G : Goal 𝓤 𝓛.H} where
  pub typed : K → (τ : Ty) {b o : ℕ} {v : Val} → Step K 𝓛 (‵ (fat full_share τ b o v) ∷ Γ) G (‵ (fat full_share (raw_ty τ) b o v) ∷ Γ) G
  typed t τ {b} {o} {v} = use1 𝓛 (‵ (fat full_share τ b o v)) (𝓛.laws.raw_at full_share τ b o v)

  pub untyped : K → (τ : Ty) {b o : ℕ} {v : Val} → Step K 𝓛 (‵ (fat full_share (raw_ty τ) b o v) ∷ Γ) G (‵ (fat full_share τ b o v) ∷ Γ) G
  untyped t τ {b} {o} {v} = use1 𝓛 (‵ (fat full_share (raw_ty τ) b o v)) (𝓛.laws.at_raw full_share τ b o v)

module _ {M : Type 1} {𝓤 : Ura M} {𝓛 : Logic 𝓤} {K : Type 0} {Γ : List (Item 𝓤)} {G : Goal 𝓤 𝓛.H} where
  open 𝓛 use {H}

  pub lends_field : K → Soaks G → (T : Declared) (k : ℕ) (m : Member) {d : ℕ} → Lies T k m d → ((y : m.row.Denot) (us : List Val) → Pure (m.row.own_val y us))
      → {vs : Vals} (x : m.row.Denot) {b o : ℕ} → Is (row_of m) x (get_v vs k ∷ [])
      → ((α : ℕ) (γ : GName) → Seq K 𝓛 (‵ (flft (α ∷ []) full_share) ∷ ‵ ((MutRef (named 0) (α ∷ []) (row_of m)).own_val (ref_at x b (o + d) γ) (vptr b (o + d) ∷ [])) ∷ ‵ (flent (α ∷ []) (Body (mem (row_of m)) b (o + d) γ)) ∷ raw (Without 𝓤 H T k m d vs b o) ∷ Γ) G)
      → Seq K 𝓛 (‵ (fat full_share (layout (shape T)) b o (vstruct vs)) ∷ Γ) G
  unfolding part_of Without
  lends_field t z T k m {d} e plain {vs} x {b} {o} is go =
      use1 𝓛 (‵ (fat full_share m.ty b (o + d) (get_v vs k)) ⊛ raw (Without 𝓤 H T k m d vs b o)) (𝓛.laws.at_field full_share T.name (to_tys (mirs (fields T))) k m.ty d e b o vs) $ split t $ untyped t m.ty $
      owned t (row_of m) (Is (row_of m)) (λ y us p. makes_shadow 𝓛 (m.row.own_val y us) (plain y us) p) x (get_v vs k ∷ []) is $ move t (1 ∷ 0 ∷ []) $ fjoin t $
      fpack t (List Val) (λ us. fsep (cell_at full_share (m.ty ∷ []) us b (o + d)) (m.row.own_val x us)) (get_v vs k ∷ []) $
      -- [the field, in memory; what is left of the struct's cell]
      lft_new t z (λ α. move t (1 ∷ []) $
      use1 𝓛 (later (some (λ (γ : GName). ‵ ((MutRef (named 0) (α ∷ []) (row_of m)).own_val (ref_at x b (o + d) γ) (vptr b (o + d) ∷ [])) ⊛ ‵ (flent (α ∷ []) (Body (mem (row_of m)) b (o + d) γ))))) (lends_ref 𝓛 (row_of m) (named 0) (α ∷ []) x b (o + d)) $
      await t z $ pick t (λ γ. split t $ move t (2 ∷ []) $ go α γ))

  pub takes_field : K → Soaks G → (T : Declared) (k : ℕ) (m : Member) (d : ℕ) (val : m.row.Denot → Val) → Tells (row_of m) (Is (row_of m)) (λ y. val y ∷ [])
      → (vs : Vals) {α : ℕ} {γ : GName} (y : m.row.Denot) {b o : ℕ}
      → (Is (row_of m) y (val y ∷ []) → Seq K 𝓛 (‵ (fat full_share (layout (shape T)) b o (vstruct (set_v vs k (val y)))) ∷ Γ) G)
      → Seq K 𝓛 (‵ (flft (α ∷ []) full_share) ∷ ‵ (flent (α ∷ []) (Body (mem (row_of m)) b (o + d) γ)) ∷ ‵ (fres γ (m.row.coded.code y)) ∷ raw (Without 𝓤 H T k m d vs b o) ∷ Γ) G
  unfolding part_of Without
  takes_field t z T k m d val tells vs {α} {γ} y {b} {o} go =
      lft_end t z $ use3 𝓛 (later (‵ (part_at (row_of m) full_share y b (o + d)))) (ref_back 𝓛 (row_of m) (α ∷ []) γ y b (o + d)) $ await t z $ fpick t (λ us. fsplit t $
      move t (1 ∷ []) $ peeks t (row_of m) (Is (row_of m)) (shows 𝓛 (row_of m)) y us (λ is. drop t $ rewrite t 0 (λ (ws : List Val). ‵ (cell_at full_share (m.ty ∷ []) ws b (o + d))) (tells y us is) refl $ typed t m.ty $
      -- [the field's cell; what is left of the struct's cell]
      move t (1 ∷ []) $ use1 𝓛 (raw (Back (val y))) (all_e 𝓤 Back (val y)) $ move t (1 ∷ 0 ∷ []) $
      use2 𝓛 (‵ (fat full_share (layout (shape T)) b o (vstruct (set_v vs k (val y))))) (apply∗ 𝓤 (H.at full_share m.ty b (o + d) (val y)) (H.at full_share (layout (shape T)) b o (vstruct (set_v vs k (val y))))) $
      go (subst (Is (row_of m) y) (tells y us is) is)))
    where
      Back : Val → SProp 𝓤
      Back u = wand 𝓤 (H.at full_share m.ty b (o + d) u) (H.at full_share (layout (shape T)) b o (vstruct (set_v vs k u)))
