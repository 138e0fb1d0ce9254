-- A capture reader in a local, in a walk: it is made by `reader_at`, lent to `next` by `&mut` for a lifetime that is made
-- for the call, and taken back at the reader that `next` leaves. What it owns of the capture stays with it.
--     lends_reader      the local's cell, what the reader owns and the capture's token are given up for what `next` asks
--     takes_reader      what `next` leaves gives them back, at the reader that is left, beside the part that it gives
-- `next` asks that the capture's lifetime outlive the loan's. So the loan's is the meet of a new lifetime with the
-- capture's: its token is made of a part of the new one's and of half of the capture's (`tok_make`), and after the call
-- both are had whole again (`tok_back`).
-- Assumes nothing.
use mathlib.Core.Path.{◌≡◌, refl}
use Prim.Native.Nat.{ℕ, ◌<◌, ◌^◌}
use mathlib.Core.Bool.{Bool}
use mathlib.Core.List.{List, [], ◌∷◌, ◌++◌}
use lib.ListN.{length}
use seplogic.Ra.Ura.{Ura}
use base.Share
use base.Fraction.{full_share}
use mir.Syntax.{named, erased, w8, w64}
use mir.Val.{Val, vint, vbool, vptr}
use base.Logic.{SProp, ent, sep, wand, apply∗, snd∗, ex_e, id⊢}
use base.Fml.{Lft, Share, GName, Fml, fsep, fat, ftrue, flft, fdead, flent}
use prog.Memory.{Memory}
use prog.Routine.{Routine}
use types.Logic.{Logic, sem}
use contract.BorrowLft.{meet_⊑_left, meet_⊑_right}
use contract.Monad.{Fun, fact}
use types.Kit.{Goal, Soaks, Item, Seq, ‵, raw, given, some, later, ◌⊛◌, ⋆, ◌$◌, ◌∵◌, !, qed, by, move, drop, use1, use2, use3, split, split3, join, pick, learn, check, fsplit, fjoin, fpick, fpack, frame, await, done}
use types.SemTy.{Body}
use types.Tokens.{lft_new, lft_end}
use denote.RattleType.{RattleType}
use denote.Laws.{Is, shows}
use denote.Lend.{lends_ref, ref_back}
use denote.Memory.{mem, cell_at, part_at, part_of}
use denote.Plain.{uint_row_laws, uint_Makes, bool_Makes}
use denote.Builtin.{u8, usize, bool}
use denote.Ref.{Bor, MutBor, NamedLft, MutRef}
use denote.Slice.{slice_val, ShrSlice, shr_slice_copy}
use denote.Steps.{owned, peeks, heard, nothing}
use denote.Struct.Laws as LL
use denote.Struct.Steps.{spelt}
use denote.Triple.Clauses.{ensured, lasts}
use denote.Triple.Spec.{triple_of}
use denote.Triple.Statement.{Contract}
use Rattle.captures.specs.Captures.{Gives}
use Rattle.captures.specs.declared.walks.CaptureReader.{CaptureReader}
use Rattle.captures.specs.contracts.walks.CaptureReader as T
use Rattle.captures.proofs.walks.CaptureReader.TheLaws as T'
use Rattle.captures.specs.contracts.walks.reader_at as reader_at
use Rattle.captures.specs.contracts.walks.next as next

-- the struct's type as `next` has it behind its `&mut`. What it owns does not say the lifetime's name
abbrev pub α : Lft → NamedLft
α κ = record { mir = named 1; lft = κ }

abbrev pub R : Lft → RattleType
R κ = T.the_row (α κ)

-- the same as a local of a body has it
abbrev pub αᵉ : Lft → NamedLft
αᵉ κ = record { mir = erased; lft = κ }

-- the loan's lifetime: the new one ν, within the capture's
abbrev pub within : ℕ → Lft → Lft
within ν κ = (ν ∷ []) ++ κ

-- the reference to the local at l, under the name δ
abbrev pub local_reader : CaptureReader → ℕ → GName → MutBor CaptureReader
local_reader h l δ = record { ref_ptr = (l, 0); ghost_name = δ; now = h }

-- what whoever holds the reader knows of its number
pub place_fits : (κ : Lft) (h : CaptureReader) (u : Val) → Is (R κ) h (u ∷ []) → h.place < 2 ^ 64
place_fits κ h u is = (LL.owed (T.the_type (α κ)) (T'.the_laws (α κ)) h _ is).1.0.1

-- ---- the token of the loan's lifetime, and the cell's way there and back
module _ {M : Type 1} {𝓤 : Ura M} (𝓛 : Logic 𝓤) (κ : Lft) where
  -- what gives the new lifetime's token whole, for the part of it that is lent
  open 𝓛 use {H, A}

  abbrev pub Owed : Share → ℕ → SProp 𝓤
  Owed q ν = wand 𝓤 (A.lft (ν ∷ []) (Share.left q)) (A.lft (ν ∷ []) full_share)

  tok_make : (q : Share) (ν : ℕ) → ent 𝓤 (sep 𝓤 (A.lft (ν ∷ []) full_share) (A.lft κ q)) (sep 𝓤 (A.lft (within ν κ) (Share.left q)) (sep 𝓤 (A.lft κ (Share.right q)) (Owed q ν)))
  tok_make q ν =
      qed 𝓛 (‵ (flft (ν ∷ []) full_share) ∷ ‵ (flft κ q) ∷ []) ∵ use1 𝓛 (‵ (flft (ν ∷ []) (Share.left q)) ⊛ raw (Owed q ν)) (𝓛.lfts.lft_carve ν (Share.left q)) $ split ! $
      move ! (2 ∷ []) $ use1 𝓛 (‵ (flft κ (Share.left q)) ⊛ ‵ (flft κ (Share.right q))) (𝓛.lfts.lft_split κ q) $ split ! $
      move ! (2 ∷ 0 ∷ []) $ use2 𝓛 (‵ (flft (within ν κ) (Share.left q))) (𝓛.lfts.lft_meet (ν ∷ []) κ (Share.left q)) $ done !

  tok_back : (q : Share) (ν : ℕ) → ent 𝓤 (sep 𝓤 (A.lft (within ν κ) (Share.left q)) (sep 𝓤 (A.lft κ (Share.right q)) (Owed q ν))) (sep 𝓤 (A.lft (ν ∷ []) full_share) (A.lft κ q))
  tok_back q ν =
      qed 𝓛 (‵ (flft (within ν κ) (Share.left q)) ∷ ‵ (flft κ (Share.right q)) ∷ raw (Owed q ν) ∷ []) ∵
      use1 𝓛 (‵ (flft (ν ∷ []) (Share.left q)) ⊛ ‵ (flft κ (Share.left q))) (𝓛.lfts.lft_unmeet (ν ∷ []) κ (Share.left q)) $ split ! $
      move ! (0 ∷ 3 ∷ []) $ use2 𝓛 (‵ (flft (ν ∷ []) full_share)) (apply∗ 𝓤 (A.lft (ν ∷ []) (Share.left q)) (A.lft (ν ∷ []) full_share)) $ frame ! $ by ! (𝓛.lfts.lft_join κ q)

  -- the local's cell and what the struct owns: the struct lies there
  cell_in : (h : CaptureReader) (u : Val) (l : ℕ) → ent 𝓤 (sep 𝓤 (H.at full_share (T'.mir erased) l 0 u) (sem 𝓛 ((R κ).own_val h (u ∷ [])))) (sem 𝓛 (part_at (R κ) full_share h l 0))
  unfolding part_of
  cell_in h u l =
      qed 𝓛 (‵ (fat full_share (T'.mir erased) l 0 u) ∷ ‵ ((R κ).own_val h (u ∷ [])) ∷ []) ∵ use1 𝓛 (‵ (cell_at full_share (R κ).mir (u ∷ []) l 0)) (𝓛.laws.at_raw full_share (T'.mir erased) l 0 u) $ fjoin ! $
      fpack ! (List Val) (λ vs. fsep (cell_at full_share (R κ).mir vs l 0) ((R κ).own_val h vs)) (u ∷ []) $ done !

  -- and back: the cell holds the struct's machine value, and the facts of the fields are learned
  cell_out : (h : CaptureReader) (l : ℕ) → ent 𝓤 (sem 𝓛 (part_at (R κ) full_share h l 0))
      (⋆ 𝓛 (given (Is (R κ) h (T'.lowered h ∷ [])) (‵ (fat full_share (T'.mir erased) l 0 (T'.lowered h)) ⊛ ‵ ((R κ).own_val h (T'.lowered h ∷ []))) ∷ []))
  unfolding part_of
  cell_out h l =
      qed 𝓛 (‵ (part_at (R κ) full_share h l 0) ∷ []) ∵ fpick ! (λ vs. fsplit ! $ spelt ! (R κ) (Is (R κ)) (shows 𝓛 (R κ)) (LL.vals (T.the_type (α κ)) (T'.the_laws (α κ))) (LL.tells (T.the_type (α κ)) (T'.the_laws (α κ))) full_share h vs l 0 $
      use1 𝓛 (‵ (fat full_share (T'.mir erased) l 0 (T'.lowered h))) (𝓛.laws.raw_at full_share (T'.mir erased) l 0 (T'.lowered h)) $
      move ! (1 ∷ []) $ peeks ! (R κ) (Is (R κ)) (shows 𝓛 (R κ)) h (T'.lowered h ∷ []) (λ is. check ! is $ move ! (1 ∷ 0 ∷ []) $ join ! $ done !))

-- ---- the calls: what each is passed, and how that comes from what is had
module _ {M : Type 1} {𝓤 : Ura M} (𝓛 : Logic 𝓤) (at_mem : Memory → SProp 𝓤) (run : Routine → Fun 𝓤) where
  abbrev pub ReaderAt : Contract 𝓤
  ReaderAt = triple_of 𝓛 reader_at.signature (reader_at.spec 𝓛 at_mem run)

  abbrev pub Next : Contract 𝓤
  Next = triple_of 𝓛 next.signature (next.spec 𝓛 at_mem run)

module _ {M : Type 1} {𝓤 : Ura M} (𝓛 : Logic 𝓤) (at_mem : Memory → SProp 𝓤) (run : Routine → Fun 𝓤) (κ : Lft) (q : Share) where
  -- `reader_at`, on the capture s and the place n. The capture is Copy: one copy goes to the callee, and one is kept
  open 𝓛 use {A}

  module _ (s : Bor (List ℕ)) (n : ℕ) where
    abbrev pub v : Val
    v = slice_val s.ref_ptr (length s.now)

    abbrev pub Own : Fml
    Own = (ShrSlice (named 0) κ u8).own_val s (v ∷ [])

    abbrev pub to_reader_at : (ReaderAt 𝓛 at_mem run).Ghost
    to_reader_at = (((κ, tt), (q, tt), tt, (s, (n, tt)), (v ∷ [], (vint w64 n ∷ [], tt))), tt)

    pub goes_reader_at : n < 2 ^ 64 → ent 𝓤 (sep 𝓤 (sem 𝓛 Own) (A.lft κ q)) (sep 𝓤 ((ReaderAt 𝓛 at_mem run).pre to_reader_at) (sem 𝓛 Own))
    goes_reader_at n_fits =
        qed 𝓛 (‵ Own ∷ ‵ (flft κ q) ∷ []) ∵ use1 𝓛 (‵ Own ⊛ ‵ Own) ((shr_slice_copy 𝓛 (named 0) κ u8 (uint_row_laws w8)).twice s (v ∷ [])) $ split ! $
        nothing ! $ move ! (3 ∷ 0 ∷ []) $ join ! $ nothing ! $ owned ! usize (Is usize) (uint_Makes 𝓛 w64) n _ (refl, n_fits) $ fjoin ! $ move ! (2 ∷ 0 ∷ []) $ fjoin ! $
        move ! (1 ∷ 0 ∷ []) $ join ! $ nothing ! $ move ! (1 ∷ 0 ∷ []) $ join ! $ frame ! $ done !

    pub reader_at_said : (r : CaptureReader) → ent 𝓤 (ensured 𝓛 reader_at.ended (reader_at.clauses 𝓛 at_mem run) (κ, tt) (s, (n, tt)) tt r) (fact 𝓤 ((r.capture ≡ s) × (r.place ≡ n)))
    reader_at_said r = ex_e 𝓤 _ (λ ws. snd∗ 𝓤 (sem 𝓛 (lasts reader_at.ended (κ, tt) (s, (n, tt)) ws)) (fact 𝓤 ((r.capture ≡ s) × (r.place ≡ n))))

  -- `next`, on the reader h in the local l, lent for the lifetime ν under the name δ
  module _ (f : ℕ) (t : Bool) (h : CaptureReader) (ν l : ℕ) (δ : GName) where
    abbrev pub to_next : (Next 𝓛 at_mem run).Ghost
    to_next = (((within ν κ, (κ, tt)), (Share.left q, (Share.right q, tt)), (meet_⊑_right (ν ∷ []) κ, tt), (local_reader h l δ, (f, (t, tt))), (vptr l 0 ∷ [], (vint w8 f ∷ [], (vbool t ∷ [], tt)))), tt)

    goes_next : f < 2 ^ 8
        → ent 𝓤 (sep 𝓤 (A.lft (within ν κ) (Share.left q)) (sep 𝓤 (A.lft κ (Share.right q)) (sem 𝓛 ((MutRef (named 0) (within ν κ) (R κ)).own_val (local_reader h l δ) (vptr l 0 ∷ []))))) ((Next 𝓛 at_mem run).pre to_next)
    goes_next f_fits =
        qed 𝓛 (‵ (flft (within ν κ) (Share.left q)) ∷ ‵ (flft κ (Share.right q)) ∷ ‵ ((MutRef (named 0) (within ν κ) (R κ)).own_val (local_reader h l δ) (vptr l 0 ∷ [])) ∷ []) ∵
        nothing ! $ move ! (2 ∷ 0 ∷ []) $ join ! $ move ! (1 ∷ 0 ∷ []) $ join ! $
        nothing ! $ owned ! bool (Is bool) (bool_Makes 𝓛) t _ refl $ fjoin ! $ owned ! u8 (Is u8) (uint_Makes 𝓛 w8) f _ (refl, f_fits) $ fjoin ! $ move ! (2 ∷ 0 ∷ []) $ fjoin ! $
        move ! (1 ∷ 0 ∷ []) $ join ! $ frame ! $ done !

-- ---- the two steps of a walk: before the call of `next`, and after it
module _ {M : Type 1} {𝓤 : Ura M} {𝓛 : Logic 𝓤} {K : Type 0} {Γ : List (Item 𝓤)} {G : Goal 𝓤 𝓛.H} where
  pub lends_reader : K → Soaks G → (at_mem : Memory → SProp 𝓤) (run : Routine → Fun 𝓤) (κ : Lft) (q : Share) (f : ℕ) (t : Bool) → f < 2 ^ 8 → (h : CaptureReader) (u : Val) (l : ℕ)
      → ((ν : ℕ) (δ : GName) → Seq K 𝓛 (raw ((Next 𝓛 at_mem run).pre (to_next 𝓛 at_mem run κ q f t h ν l δ)) ∷ raw (Owed 𝓛 κ q ν) ∷ ‵ (flent (within ν κ) (Body (mem (R κ)) l 0 δ)) ∷ Γ) G)
      → Seq K 𝓛 (‵ (fat full_share (T'.mir erased) l 0 u) ∷ ‵ ((R κ).own_val h (u ∷ [])) ∷ ‵ (flft κ q) ∷ Γ) G
  lends_reader k z at_mem run κ q f t f_fits h u l next-called =
      use2 𝓛 (‵ (part_at (R κ) full_share h l 0)) (cell_in 𝓛 κ h u l) $
      lft_new k z (λ ν. move k (0 ∷ 2 ∷ []) $ use2 𝓛 (‵ (flft (within ν κ) (Share.left q)) ⊛ ‵ (flft κ (Share.right q)) ⊛ raw (Owed 𝓛 κ q ν)) (tok_make 𝓛 κ q ν) $ split k $
      move k (2 ∷ []) $ use1 𝓛 (later (some (λ (δ : GName). ‵ ((MutRef (named 0) (within ν κ) (R κ)).own_val (local_reader h l δ) (vptr l 0 ∷ [])) ⊛ ‵ (flent (within ν κ) (Body (mem (R κ)) l 0 δ))))) (lends_ref 𝓛 (R κ) (named 0) (within ν κ) h l 0) $
      await k z $ pick k (λ δ. split k $ move k (3 ∷ []) $ split k $ move k (4 ∷ 0 ∷ 2 ∷ []) $
      use3 𝓛 (raw ((Next 𝓛 at_mem run).pre (to_next 𝓛 at_mem run κ q f t h ν l δ))) (goes_next 𝓛 at_mem run κ q f t h ν l δ f_fits) $ next-called ν δ))

  pub takes_reader : K → Soaks G → (at_mem : Memory → SProp 𝓤) (run : Routine → Fun 𝓤) (κ : Lft) (q : Share) (f : ℕ) (t : Bool) (h : CaptureReader) (ν l : ℕ) (δ : GName) (w : Val)
      → ((r : Bor (List ℕ)) (y : CaptureReader) → Gives f t h y r → Is (ShrSlice (named 0) κ u8) r (w ∷ []) → Is (R κ) y (T'.lowered y ∷ [])
      → Seq K 𝓛 (‵ (fat full_share (T'.mir erased) l 0 (T'.lowered y)) ∷ ‵ ((R κ).own_val y (T'.lowered y ∷ [])) ∷ ‵ (flft κ q) ∷ ‵ ((ShrSlice (named 0) κ u8).own_val r (w ∷ [])) ∷ Γ) G)
      → Seq K 𝓛 (raw ((Next 𝓛 at_mem run).post (to_next 𝓛 at_mem run κ q f t h ν l δ) w) ∷ raw (Owed 𝓛 κ q ν) ∷ ‵ (flent (within ν κ) (Body (mem (R κ)) l 0 δ)) ∷ Γ) G
  takes_reader k z at_mem run κ q f t h ν l δ w taken =
      use1 𝓛 (later (some (λ (r : Bor (List ℕ)). ((‵ (flft (within ν κ) (Share.left q)) ⊛ ‵ (flft κ (Share.right q)) ⊛ ‵ ftrue) ⊛ ‵ ((ShrSlice (named 0) κ u8).own_val r (w ∷ []))) ⊛ raw (ensured 𝓛 next.ended (next.clauses 𝓛 at_mem run) (within ν κ, (κ, tt)) (local_reader h l δ, (f, (t, tt))) tt r)))) (id⊢ 𝓤 _) $ await k z $ pick k (λ r.
      -- what `next` ensures, at some last reader
      split k $ move k (1 ∷ []) $ use1 𝓛 (some (λ (ys : CaptureReader × (Unit {0} × (Unit {0} × Unit {0}))). ‵ (lasts next.ended (within ν κ, (κ, tt)) (local_reader h l δ, (f, (t, tt))) ys) ⊛ raw (fact 𝓤 (Gives f t h ys.0 r)))) (id⊢ 𝓤 _) $ pick k (λ ys.
      split k $ move k (1 ∷ []) $ heard k (Gives f t h ys.0 r) (λ g. fsplit k $ move k (1 ∷ []) $ drop k $ fsplit k $ move k (1 ∷ []) $ drop k $
      move k (1 ∷ []) $ split k $ move k (1 ∷ []) $ peeks k (ShrSlice (named 0) κ u8) (Is (ShrSlice (named 0) κ u8)) (shows 𝓛 (ShrSlice (named 0) κ u8)) r (w ∷ []) (λ is_r.
      -- [what the part owns; the tokens; the last reader; what is owed to the new lifetime's token; the lender's part]
      move k (1 ∷ []) $ split3 k $ move k (0 ∷ 1 ∷ 5 ∷ []) $ use3 𝓛 (‵ (flft (ν ∷ []) full_share) ⊛ ‵ (flft κ q)) (tok_back 𝓛 κ q ν) $ split k $
      lft_end k z $ use1 𝓛 (‵ (fdead (within ν κ))) (𝓛.lfts.dead-incl (within ν κ) (ν ∷ []) (meet_⊑_left (ν ∷ []) κ)) $
      -- [the lifetime is dead; the capture's token; true; what the part owns; the last reader; the lender's part]
      move k (0 ∷ 5 ∷ 4 ∷ []) $ use3 𝓛 (later (‵ (part_at (R κ) full_share ys.0 l 0))) (ref_back 𝓛 (R κ) (within ν κ) δ ys.0 l 0) $ await k z $
      use1 𝓛 (given (Is (R κ) ys.0 (T'.lowered ys.0 ∷ [])) (‵ (fat full_share (T'.mir erased) l 0 (T'.lowered ys.0)) ⊛ ‵ ((R κ).own_val ys.0 (T'.lowered ys.0 ∷ [])))) (cell_out 𝓛 κ ys.0 l) $ learn k (λ is_y.
      split k $ move k (3 ∷ []) $ drop k $ taken r ys.0 g is_r is_y)))))
