-- A local that holds a struct of plain data is lent by `&mut` for one call, and taken back once the call has returned.
-- It says nothing of one struct or of one function: T is any declared struct whose fields own only facts.     cell_in
-- the local's cell holds v, which is h's machine value  ⊢  h lies there     lends_local      the local's cell, at h, is
-- given up for a lifetime that is made here: its token, a `&mut` to the cell at h, and the lender's part     takes_back
-- the token, the lender's part and what says that y is the reference's last value give the cell back: it holds a
-- machine value of y. The lifetime is ended here Both are steps of a walk, to be written between two statements.
-- Assumes `Logic`.
use mathlib.Core.Path.{refl, subst}
use Prim.Native.Nat.{ℕ}
use mathlib.Core.List.{List, [], ◌∷◌}
use seplogic.Ra.Ura.{Ura}
use base.Fraction.{full_share}
use mir.Syntax.{named}
use mir.Raw.{raw as raw_ty}
use mir.Val.{Val, vptr}
use base.Logic.{ent}
use base.Fml.{GName, fsep, fat, flft, fres, flent}
use types.Logic.{Logic, sem}
use types.Kit.{Goal, Soaks, Item, Seq, ‵, ◌⊛◌, some, later, ◌$◌, ◌∵◌, !, qed, move, use1, use3, drop, split, pick, rewrite, fsplit, fjoin, fpick, fpack, await, done}
use types.Tokens.{lft_new, lft_end}
use types.SemTy.{Body}
use denote.Laws.{Is, shows}
use denote.Lend.{lends_ref, ref_back}
use denote.Memory.{cell_at, part_at, mem, part_of}
use denote.Ref.{MutBor, MutRef}
use denote.Steps.{owned, peeks}
use denote.Struct.Declared.{Declared, fields, shape, row}
use denote.Struct.Laws as LL
use denote.Struct.Struct.{Plains, layout}

-- the reference to the local at b, under the name γ
abbrev pub local_ref : {X : Type 0} → X → ℕ → GName → MutBor X
local_ref h b γ = record { ref_ptr = (b, 0); ghost_name = γ; now = h }

module _ {M : Type 1} {𝓤 : Ura M} (𝓛 : Logic 𝓤) (T : Declared) where
  open 𝓛 use {H}

  pub cell_in : Plains (fields T) → (h : T.D) (v : Val) (b : ℕ) → Is (row T) h (v ∷ []) → ent 𝓤 (H.at full_share (layout (shape T)) b 0 v) (sem 𝓛 (part_at (row T) full_share h b 0))
  unfolding part_of
  cell_in plain h v b is =
      qed 𝓛 (‵ (fat full_share (layout (shape T)) b 0 v) ∷ []) ∵ use1 𝓛 (‵ (fat full_share (raw_ty (layout (shape T))) b 0 v)) (𝓛.laws.at_raw full_share (layout (shape T)) b 0 v) $
      owned ! (row T) (Is (row T)) (LL.makes T plain 𝓛) h (v ∷ []) is $ move ! (1 ∷ 0 ∷ []) $ fjoin ! $
      fpack ! (List Val) (λ vs. fsep (cell_at full_share (row T).mir vs b 0) ((row T).own_val h vs)) (v ∷ []) $ done !

module _ {M : Type 1} {𝓤 : Ura M} {𝓛 : Logic 𝓤} {K : Type 0} {Γ : List (Item 𝓤)} {G : Goal 𝓤 𝓛.H} where
  pub lends_local : K → Soaks G → (T : Declared) → Plains (fields T) → (h : T.D) (v : Val) (b : ℕ) → Is (row T) h (v ∷ [])
      → ((ν : ℕ) (γ : GName) → Seq K 𝓛 (‵ (flft (ν ∷ []) full_share) ∷ ‵ ((MutRef (named 0) (ν ∷ []) (row T)).own_val (local_ref h b γ) (vptr b 0 ∷ [])) ∷ ‵ (flent (ν ∷ []) (Body (mem (row T)) b 0 γ)) ∷ Γ) G)
      → Seq K 𝓛 (‵ (fat full_share (layout (shape T)) b 0 v) ∷ Γ) G
  lends_local t z T plain h v b is k =
      use1 𝓛 (‵ (part_at (row T) full_share h b 0)) (cell_in 𝓛 T plain h v b is) $ lft_new t z (λ ν. move t (1 ∷ []) $
      use1 𝓛 (later (some (λ (γ : GName). ‵ ((MutRef (named 0) (ν ∷ []) (row T)).own_val (local_ref h b γ) (vptr b 0 ∷ [])) ⊛ ‵ (flent (ν ∷ []) (Body (mem (row T)) b 0 γ))))) (lends_ref 𝓛 (row T) (named 0) (ν ∷ []) h b 0) $
      await t z $ pick t (λ γ. split t $ move t (2 ∷ []) $ k ν γ))

  pub takes_back : K → Soaks G → (T : Declared) → LL.Laws T → (ν : ℕ) (γ : GName) (y : T.D) (b : ℕ)
      → ((v : Val) → Is (row T) y (v ∷ []) → Seq K 𝓛 (‵ (fat full_share (layout (shape T)) b 0 v) ∷ Γ) G)
      → Seq K 𝓛 (‵ (flft (ν ∷ []) full_share) ∷ ‵ (flent (ν ∷ []) (Body (mem (row T)) b 0 γ)) ∷ ‵ (fres γ ((row T).coded.code y)) ∷ Γ) G
  unfolding part_of
  takes_back t z T laws ν γ y b k =
      lft_end t z $ use3 𝓛 (later (‵ (part_at (row T) full_share y b 0))) (ref_back 𝓛 (row T) (ν ∷ []) γ y b 0) $ await t z $ fpick t (λ vs. fsplit t $
      move t (1 ∷ []) $ peeks t (row T) (Is (row T)) (shows 𝓛 (row T)) y vs (λ is. drop t $ rewrite t 0 (λ (us : List Val). ‵ (cell_at full_share (row T).mir us b 0)) (LL.tells T laws y vs is) refl $
      use1 𝓛 (‵ (fat full_share (layout (shape T)) b 0 (LL.val T laws y))) (𝓛.laws.raw_at full_share (layout (shape T)) b 0 (LL.val T laws y)) $ k (LL.val T laws y) (subst (Is (row T) y) (LL.tells T laws y vs is) is)))
