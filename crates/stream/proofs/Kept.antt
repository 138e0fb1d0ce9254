-- A reader in a local, in a walk: it is lent by `&mut` to `feed_lent` or to `close_lent` for a lifetime that is made for the
-- call, and taken back after it at the reader that the call left (`Lending.antt`). Between the two steps stands the call.
--     lends_to_feed, lends_to_close      the local's cell is given up for what the call asks, and the lender's part
--     takes_from_feed, takes_from_close      what the call leaves gives the cell back, with what the call ensures in hand
-- All that they know of the two functions is the contract that each meets. An answer and an outcome own only facts.
-- Assumes nothing.
use Prim.Native.Nat.{ℕ}
use Rattle.rules.specs.declared.Refusal.{Refusal}
use Rattle.stream_rules.specs.declared.Progress.{Progress}
use Rattle.std.specs.Prelude.{Result}
use mathlib.Core.List.{List, [], ◌∷◌}
use seplogic.Ra.Ura.{Ura}
use base.Fraction.{full_share}
use mir.Syntax.{named}
use mir.Val.{Val, vptr}
use base.Logic.{SProp, ent, sep, id⊢}
use base.Fml.{GName, Lft, Share, ftrue, fat, flft, flent}
use prog.Memory.{Memory}
use prog.Routine.{Routine}
use types.Logic.{Logic, sem}
use contract.Monad.{Fun, fact}
use types.Kit.{Goal, Soaks, Item, Seq, ‵, raw, some, later, ◌⊛◌, ◌$◌, ◌∵◌, !, qed, move, drop, use1, use2, use3, split, join, pick, fsplit, fjoin, frame, await, done}
use types.SemTy.{Body}
use denote.Laws.{Is, shows}
use denote.Memory.{mem}
use denote.Builtin.{u8}
use denote.Plain.{Nothing}
use denote.RattleType.{RattleType}
use denote.Ref.{Bor, MutRef}
use denote.Slice.{ShrSlice}
use denote.Steps.{facts, heard, nothing}
use denote.Triple.Clauses.{ensured, lasts}
use denote.Triple.Spec.{triple_of}
use denote.Triple.Statement.{Contract}
use Rattle.stream_rules.specs.Streams.{Feeds, Shuts}
use Rattle.stream_rules.specs.declared.Reader.{Reader}
use Rattle.stream_rules.specs.contracts.Reader as R
use Rattle.stream_rules.proofs.Reader.TheLaws as R'
use Rattle.stream_rules.specs.contracts.Progress as P
use Rattle.rules.specs.contracts.Refusal as E
use Rattle.std.specs.contracts.result.Result as Res
use Rattle.stream.specs.Lent.{left, turned}
use Rattle.stream.proofs.Lending.{local_ref, lends_local, takes_back}
use Rattle.stream.specs.contracts.lent.feed_lent as feed-lent
use Rattle.stream.specs.contracts.lent.close_lent as close-lent

-- the answer of a call, and the outcome of a close, in memory
abbrev answer_row : RattleType
answer_row = Res.the_row P.the_row E.the_row

abbrev outcome_row : RattleType
outcome_row = Res.the_row Nothing E.the_row

-- ---- the calls: what each is passed, and how that comes from what is had
module _ {M : Type 1} {𝓤 : Ura M} (𝓛 : Logic 𝓤) (at_mem : Memory → SProp 𝓤) (run : Routine → Fun 𝓤) where
  abbrev pub FeedLent : Contract 𝓤
  FeedLent = triple_of 𝓛 feed-lent.signature (feed-lent.spec 𝓛 at_mem run)

  abbrev pub CloseLent : Contract 𝓤
  CloseLent = triple_of 𝓛 close-lent.signature (close-lent.spec 𝓛 at_mem run)

module _ {M : Type 1} {𝓤 : Ura M} (𝓛 : Logic 𝓤) (at_mem : Memory → SProp 𝓤) (run : Routine → Fun 𝓤) where
  -- `feed_lent`, on the reader r in the local l, lent for the lifetime ν under the name γ, and on the bytes s
  open 𝓛 use {A}

  module _ (κ : Lft) (q : Share) (s : Bor (List ℕ)) (m : Val) (r : Reader) (ν l : ℕ) (γ : GName) where
    abbrev pub to_feed : (FeedLent 𝓛 at_mem run).Ghost
    to_feed = (((ν ∷ [], (κ, tt)), (full_share, (q, tt)), tt, (local_ref r l γ, (s, tt)), (vptr l 0 ∷ [], (m ∷ [], tt))), tt)

    goes_feed : ent 𝓤 (sep 𝓤 (sep 𝓤 (A.lft (ν ∷ []) full_share) (sem 𝓛 ((MutRef (named 0) (ν ∷ []) R.the_row).own_val (local_ref r l γ) (vptr l 0 ∷ [])))) (sep 𝓤 (A.lft κ q) (sem 𝓛 ((ShrSlice (named 0) κ u8).own_val s (m ∷ [])))))
        ((FeedLent 𝓛 at_mem run).pre to_feed)
    goes_feed =
        qed 𝓛 ((‵ (flft (ν ∷ []) full_share) ⊛ ‵ ((MutRef (named 0) (ν ∷ []) R.the_row).own_val (local_ref r l γ) (vptr l 0 ∷ []))) ∷ ‵ (flft κ q) ∷ ‵ ((ShrSlice (named 0) κ u8).own_val s (m ∷ [])) ∷ []) ∵ split ! $
        nothing ! $ move ! (4 ∷ 0 ∷ []) $ fjoin ! $ move ! (2 ∷ 0 ∷ []) $ fjoin ! $
        -- [what the parameters own; the token of ν; that of κ]
        nothing ! $ move ! (3 ∷ 0 ∷ []) $ join ! $ move ! (2 ∷ 0 ∷ []) $ join ! $ join ! $ frame ! $ done !

  -- `close_lent`, on the reader r in the local l, lent for the lifetime ν under the name γ
  module _ (r : Reader) (ν l : ℕ) (γ : GName) where
    abbrev pub to_close : (CloseLent 𝓛 at_mem run).Ghost
    to_close = (((ν ∷ [], tt), (full_share, tt), tt, (local_ref r l γ, tt), (vptr l 0 ∷ [], tt)), tt)

    goes_close : ent 𝓤 (sep 𝓤 (A.lft (ν ∷ []) full_share) (sem 𝓛 ((MutRef (named 0) (ν ∷ []) R.the_row).own_val (local_ref r l γ) (vptr l 0 ∷ [])))) ((CloseLent 𝓛 at_mem run).pre to_close)
    goes_close =
        qed 𝓛 (‵ (flft (ν ∷ []) full_share) ∷ ‵ ((MutRef (named 0) (ν ∷ []) R.the_row).own_val (local_ref r l γ) (vptr l 0 ∷ [])) ∷ []) ∵ nothing ! $ move ! (2 ∷ 0 ∷ []) $ fjoin ! $
        nothing ! $ move ! (2 ∷ 0 ∷ []) $ join ! $ join ! $ frame ! $ done !

-- ---- the steps
module _ {M : Type 1} {𝓤 : Ura M} {𝓛 : Logic 𝓤} {K : Type 0} {Γ : List (Item 𝓤)} {G : Goal 𝓤 𝓛.H} where
  pub lends_to_feed : K → Soaks G → (at_mem : Memory → SProp 𝓤) (run : Routine → Fun 𝓤) (κ : Lft) (q : Share) (s : Bor (List ℕ)) (m : Val) (r : Reader) (v : Val) (l : ℕ) → Is R.the_row r (v ∷ [])
      → ((ν : ℕ) (γ : GName) → Seq K 𝓛 (raw ((FeedLent 𝓛 at_mem run).pre (to_feed 𝓛 at_mem run κ q s m r ν l γ)) ∷ ‵ (flent (ν ∷ []) (Body (mem R.the_row) l 0 γ)) ∷ Γ) G)
      → Seq K 𝓛 (‵ (fat full_share R'.mir l 0 v) ∷ ‵ (flft κ q) ∷ ‵ ((ShrSlice (named 0) κ u8).own_val s (m ∷ [])) ∷ Γ) G
  lends_to_feed k z at_mem run κ q s m r v l is called =
      lends_local k z R.the_type R'.the_plain r v l is (λ ν γ. join k $ move k (0 ∷ 2 ∷ 3 ∷ []) $
      use3 𝓛 (raw ((FeedLent 𝓛 at_mem run).pre (to_feed 𝓛 at_mem run κ q s m r ν l γ))) (goes_feed 𝓛 at_mem run κ q s m r ν l γ) $ called ν γ)

  pub takes_from_feed : K → Soaks G → (at_mem : Memory → SProp 𝓤) (run : Routine → Fun 𝓤) (κ : Lft) (q : Share) (s : Bor (List ℕ)) (m : Val) (r : Reader) (ν l : ℕ) (γ : GName) (w : Val)
      → ((n : (Result Progress Refusal)) (y : Reader) (u : Val) → Feeds r s.now (left y n) → Is answer_row n (w ∷ []) → Is R.the_row y (u ∷ []) → Seq K 𝓛 (‵ (fat full_share R'.mir l 0 u) ∷ ‵ (flft κ q) ∷ Γ) G)
      → Seq K 𝓛 (raw ((FeedLent 𝓛 at_mem run).post (to_feed 𝓛 at_mem run κ q s m r ν l γ) w) ∷ ‵ (flent (ν ∷ []) (Body (mem R.the_row) l 0 γ)) ∷ Γ) G
  takes_from_feed k z at_mem run κ q s m r ν l γ w taken =
      use1 𝓛 (later (some (λ (n : (Result Progress Refusal)). ((‵ (flft (ν ∷ []) full_share) ⊛ (‵ (flft κ q) ⊛ ‵ ftrue)) ⊛ ‵ ((answer_row).own_val n (w ∷ []))) ⊛ raw (ensured 𝓛 feed-lent.ended (feed-lent.clauses 𝓛 at_mem run) (ν ∷ [], (κ, tt)) (local_ref r l γ, (s, tt)) tt n)))) (id⊢ 𝓤 _) $ await k z $ pick k (λ n.
      -- what `feed_lent` ensures, at some last reader
      split k $ move k (1 ∷ []) $ use1 𝓛 (some (λ (ys : Reader × (Unit {0} × Unit {0})). ‵ (lasts feed-lent.ended (ν ∷ [], (κ, tt)) (local_ref r l γ, (s, tt)) ys) ⊛ raw (fact 𝓤 (Feeds r s.now (left ys.0 n))))) (id⊢ 𝓤 _) $ pick k (λ ys.
      split k $ move k (1 ∷ []) $ heard k (Feeds r s.now (left ys.0 n)) (λ e. fsplit k $ move k (1 ∷ []) $ drop k $
      move k (1 ∷ []) $ split k $ move k (1 ∷ []) $ facts k answer_row (Is answer_row) (shows 𝓛 answer_row) n (w ∷ []) (λ is_n.
      -- [the tokens; the last reader; the lender's part]
      split k $ move k (2 ∷ []) $ fsplit k $ move k (1 ∷ []) $ drop k $ move k (1 ∷ 3 ∷ 0 ∷ []) $ takes_back k z R.the_type R'.the_laws ν γ ys.0 l (λ u is_y. move k (1 ∷ []) $ split k $ move k (1 ∷ []) $ drop k $ move k (1 ∷ 0 ∷ []) $ taken n ys.0 u e is_n is_y)))))

  pub lends_to_close : K → Soaks G → (at_mem : Memory → SProp 𝓤) (run : Routine → Fun 𝓤) (r : Reader) (v : Val) (l : ℕ) → Is R.the_row r (v ∷ [])
      → ((ν : ℕ) (γ : GName) → Seq K 𝓛 (raw ((CloseLent 𝓛 at_mem run).pre (to_close 𝓛 at_mem run r ν l γ)) ∷ ‵ (flent (ν ∷ []) (Body (mem R.the_row) l 0 γ)) ∷ Γ) G)
      → Seq K 𝓛 (‵ (fat full_share R'.mir l 0 v) ∷ Γ) G
  lends_to_close k z at_mem run r v l is called =
      lends_local k z R.the_type R'.the_plain r v l is (λ ν γ. use2 𝓛 (raw ((CloseLent 𝓛 at_mem run).pre (to_close 𝓛 at_mem run r ν l γ))) (goes_close 𝓛 at_mem run r ν l γ) $ called ν γ)

  pub takes_from_close : K → Soaks G → (at_mem : Memory → SProp 𝓤) (run : Routine → Fun 𝓤) (r : Reader) (ν l : ℕ) (γ : GName) (w : Val)
      → ((o : (Result Unit Refusal)) (y : Reader) (u : Val) → Shuts r (turned y o) → Is outcome_row o (w ∷ []) → Is R.the_row y (u ∷ []) → Seq K 𝓛 (‵ (fat full_share R'.mir l 0 u) ∷ Γ) G)
      → Seq K 𝓛 (raw ((CloseLent 𝓛 at_mem run).post (to_close 𝓛 at_mem run r ν l γ) w) ∷ ‵ (flent (ν ∷ []) (Body (mem R.the_row) l 0 γ)) ∷ Γ) G
  takes_from_close k z at_mem run r ν l γ w taken =
      use1 𝓛 (later (some (λ (o : (Result Unit Refusal)). ((‵ (flft (ν ∷ []) full_share) ⊛ ‵ ftrue) ⊛ ‵ ((outcome_row).own_val o (w ∷ []))) ⊛ raw (ensured 𝓛 close-lent.ended (close-lent.clauses 𝓛 at_mem run) (ν ∷ [], tt) (local_ref r l γ, tt) tt o)))) (id⊢ 𝓤 _) $ await k z $ pick k (λ o.
      -- what `close_lent` ensures, at some last reader
      split k $ move k (1 ∷ []) $ use1 𝓛 (some (λ (ys : Reader × Unit {0}). ‵ (lasts close-lent.ended (ν ∷ [], tt) (local_ref r l γ, tt) ys) ⊛ raw (fact 𝓤 (Shuts r (turned ys.0 o))))) (id⊢ 𝓤 _) $ pick k (λ ys.
      split k $ move k (1 ∷ []) $ heard k (Shuts r (turned ys.0 o)) (λ e. fsplit k $ move k (1 ∷ []) $ drop k $
      move k (1 ∷ []) $ split k $ move k (1 ∷ []) $ facts k outcome_row (Is outcome_row) (shows 𝓛 outcome_row) o (w ∷ []) (λ is_o.
      -- [the token; the last reader; the lender's part]
      split k $ move k (2 ∷ []) $ fsplit k $ move k (1 ∷ []) $ drop k $ move k (1 ∷ 3 ∷ 0 ∷ []) $ takes_back k z R.the_type R'.the_laws ν γ ys.0 l (λ u is_y. move k (1 ∷ []) $ drop k $ taken o ys.0 u e is_o is_y)))))
