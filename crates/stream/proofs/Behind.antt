-- A reader behind a `&mut`, in a walk: the borrow is opened, with the reader's machine value written out and its
-- relation in hand, and closed at any reader whose relation is in hand. A reader owns only facts, so nothing of the old
-- reader has to be kept, and of the new one the relation is enough. The steps take the proof kit's rules (`Logic`), as
-- the logic's own steps do.
-- Assumes nothing.
use mathlib.Core.Path.{subst}
use Prim.Native.Nat.{ℕ}
use mathlib.Core.List.{List, [], ◌∷◌}
use seplogic.Ra.Ura.{Ura}
use base.Fraction.{full_share}
use lib.Dec.{T as Holds}
use mir.Val.{Val, WT, has_ty}
use base.Stored.{Gv}
use base.Fml.{GName, Lft, Share, flft, fobs, fauth, fbor, fobor}
use types.Logic.{Logic}
use types.Kit.{Goal, Soaks, Item, Seq, Step, step, ‵, ◌$◌, move}
use types.SemTy.{Body}
use denote.Laws.{Is, shows}
use denote.Memory.{cell_at, mem}
use denote.Steps.{opens, closes, owned, peeks}
use denote.Struct.Laws as LL
use denote.Struct.Steps.{spelt}
use Rattle.stream_rules.specs.declared.Reader.{Reader}
use Rattle.stream_rules.specs.contracts.Reader as R
use Rattle.stream_rules.proofs.Reader.TheLaws as R'

-- a reader's one machine value
abbrev pub vals : Reader → List Val
vals r = R'.lowered r ∷ []

-- whatever machine values a reader is related to are that one, so the relation holds of it
pub as_spelt : (r : Reader) (vs : List Val) → Is R.the_row r vs → Is R.the_row r (vals r)
as_spelt r vs p = subst (Is R.the_row r) ((R'.lowers).val_is r vs p) p

module _ {M : Type 1} {𝓤 : Ura M} (𝓛 : Logic 𝓤) where
  -- it is a value of the struct's MIR type
  pub reader_typed : (r : Reader) → Is R.the_row r (vals r) → Holds (has_ty R'.mir (R'.lowered r)) × WT (R'.lowered r)
  reader_typed r p = ((LL.lawful R.the_type R'.the_laws 𝓛).typed r (vals r) p).0

module _ {M : Type 1} {𝓤 : Ura M} {𝓛 : Logic 𝓤} {K : Type 0} {Γ : List (Item 𝓤)} {G : Goal 𝓤 𝓛.H} where
  -- the borrow is opened: the reader's cell, at its machine value; what it owns; the open borrow; what observes the
  -- value; and what holds it
  pub opens_reader : K → Soaks G → {κ : Lft} {q : Share} (h : Reader) {γ : GName} (b o : ℕ)
      → (Is R.the_row h (vals h) → Seq K 𝓛 (‵ (cell_at full_share (R.the_row).mir (vals h) b o) ∷ ‵ ((R.the_row).own_val h (vals h)) ∷ ‵ (fobor κ q (Body (mem R.the_row) b o γ)) ∷ ‵ (fobs γ ((R.the_row).coded.code h)) ∷ ‵ (fauth γ ((R.the_row).coded.code h)) ∷ Γ) G)
      → Seq K 𝓛 (‵ (fobs γ ((R.the_row).coded.code h)) ∷ ‵ (fbor κ (Body (mem R.the_row) b o γ)) ∷ ‵ (flft κ q) ∷ Γ) G
  opens_reader t z h b o k =
      opens t z R.the_row {h = h} b o (λ vs. spelt t R.the_row (Is R.the_row) (shows 𝓛 R.the_row) vals (R'.lowers).val_is full_share h vs b o $
      move t (1 ∷ []) $ peeks t R.the_row (Is R.the_row) (shows 𝓛 R.the_row) h (vals h) (λ was. move t (1 ∷ 0 ∷ []) $ k was))

  -- and closed, at the reader that now lies there
  pub closes_reader : K → Soaks G → {κ : Lft} {q : Share} {u v : Gv} (h : Reader) → Is R.the_row h (vals h) → {γ : GName} (b o : ℕ)
      → Step K 𝓛 (‵ (fobs γ ((R.the_row).coded.code h)) ∷ ‵ (fbor κ (Body (mem R.the_row) b o γ)) ∷ ‵ (flft κ q) ∷ Γ) G
      (‵ (cell_at full_share (R.the_row).mir (vals h) b o) ∷ ‵ (fobor κ q (Body (mem R.the_row) b o γ)) ∷ ‵ (fobs γ u) ∷ ‵ (fauth γ v) ∷ Γ) G
  closes_reader t z h new b o = step (λ s. owned t R.the_row (Is R.the_row) (LL.makes R.the_type R'.the_plain 𝓛) h (vals h) new $ move t (1 ∷ 0 ∷ []) $ closes t z R.the_row h (vals h) b o $ s)
