-- `stream::feed` called in a walk, on a reader that was copied out of a `&mut` and on lent bytes: what it is passed,
-- how that comes from what the reader and the bytes own, and what it says. The slice of offered bytes is Copy: what it
-- owns is had twice, one copy goes to the callee beside its lifetime's token, which comes back, and one is kept for the
-- exit.
-- Assumes nothing.
use mathlib.Core.List.{[], ◌∷◌, List}
use Prim.Native.Nat.{ℕ}
use lib.ListN.{length}
use seplogic.Ra.Ura.{Ura}
use mir.Syntax.{named, w8}
use mir.Val.{Val}
use base.Logic.{SProp, ent, sep, snd∗, ex_e}
use base.Fml.{Fml, Lft, Share, ftrue, flft}
use prog.Memory.{Memory}
use prog.Routine.{Routine}
use types.Logic.{Logic, sem}
use contract.Monad.{Fun, fact}
use types.Kit.{Item, ‵, raw, ◌⊛◌, ⋆, ◌$◌, ◌∵◌, !, qed, move, use1, use2, split, join, fjoin, frame, done}
use denote.RattleType.{owns}
use denote.Laws.{Is}
use denote.Plain.{uint_row_laws}
use denote.Builtin.{u8}
use denote.Ref.{Bor}
use denote.Slice.{slice_val, ShrSlice, shr_slice_copy}
use denote.Steps.{nothing}
use denote.Triple.Statement.{Contract}
use denote.Triple.Clauses.{ensured, lasts}
use denote.Triple.Entry.{Vals, on_entry}
use denote.Triple.Spec.{triple_of}
use Rattle.stream_rules.specs.Streams.{Feeds}
use Rattle.stream_rules.specs.declared.Reader.{Reader}
use Rattle.stream_rules.specs.declared.Fed.{Fed}
use Rattle.stream_rules.specs.contracts.Reader as R
use Rattle.stream_rules.specs.contracts.Fed as T
use Rattle.stream.specs.contracts.readers.feed as feed
use Rattle.stream.proofs.Behind.{vals, as_spelt}

-- the reader in what `stream::feed` gives back, with its relation
pub read_back : (r : Fed) (v : Val) → Is T.the_row r (v ∷ []) → Is R.the_row r.reader (vals r.reader)
read_back r v is = as_spelt r.reader is.0.0 is.1.1.0

module _ {M : Type 1} {𝓤 : Ura M} (𝓛 : Logic 𝓤) (at_mem : Memory → SProp 𝓤) (run : Routine → Fun 𝓤) where
  -- the contract that the proof cites
  abbrev pub Feed : Contract 𝓤
  Feed = triple_of 𝓛 feed.signature (feed.spec 𝓛 at_mem run)

module _ {M : Type 1} {𝓤 : Ura M} (𝓛 : Logic 𝓤) (at_mem : Memory → SProp 𝓤) (run : Routine → Fun 𝓤) (κ' : Lft) (q' : Share) (h : Reader) (s : Bor (List ℕ)) where
  -- the slice's machine value
  abbrev pub v : Val
  v = slice_val s.ref_ptr (length s.now)

  -- what the slice owns, and its token
  abbrev pub Own : Fml
  Own = (ShrSlice (named 1) κ' u8).own_val s (v ∷ [])

  abbrev pub Token : Item 𝓤
  Token = ‵ (flft κ' q') ⊛ ‵ ftrue

  -- what the callee is passed
  abbrev pub passed : Vals feed.signature (κ', tt)
  passed = (vals h, (v ∷ [], tt))

  abbrev pub to : (Feed 𝓛 at_mem run).Ghost
  to = (((κ', tt), (q', tt), tt, (h, (s, tt)), passed), tt)

  asked : ent 𝓤 (on_entry 𝓛 feed.signature (κ', tt) (q', tt) (h, (s, tt)) passed) ((Feed 𝓛 at_mem run).pre to)
  asked = qed 𝓛 (Token ∷ ‵ (owns (R.the_row ∷ ShrSlice (named 0) κ' u8 ∷ []) (h, (s, tt)) passed) ∷ []) ∵ join ! $ frame ! $ done !

  -- what the reader and the slice own gives what the callee asks, and the slice's is kept
  pub apart : ent 𝓤 (⋆ 𝓛 (‵ ((R.the_row).own_val h (vals h)) ∷ ‵ Own ∷ Token ∷ [])) (sep 𝓤 ((Feed 𝓛 at_mem run).pre to) (sem 𝓛 Own))
  apart =
      qed 𝓛 (‵ ((R.the_row).own_val h (vals h)) ∷ ‵ Own ∷ Token ∷ []) ∵
      move ! (1 ∷ []) $ use1 𝓛 (‵ Own ⊛ ‵ Own) ((shr_slice_copy 𝓛 (named 1) κ' u8 (uint_row_laws w8)).twice s (v ∷ [])) $ split ! $
      -- [what the slice owns, twice; what the reader owns; the token]
      nothing ! $ move ! (1 ∷ 0 ∷ []) $ fjoin ! $ move ! (2 ∷ 0 ∷ []) $ fjoin ! $
      move ! (2 ∷ 0 ∷ []) $ use2 𝓛 (raw ((Feed 𝓛 at_mem run).pre to)) asked $ frame ! $ done !

  -- of the callee's `ensured`, the clause alone: it has no `&mut`, so what is said of last values is dropped
  pub said : (r : Fed) → ent 𝓤 (ensured 𝓛 feed.ended (feed.clauses 𝓛 at_mem run) (κ', tt) (h, (s, tt)) tt r) (fact 𝓤 (Feeds h s.now r))
  said r = ex_e 𝓤 _ (λ ws. snd∗ 𝓤 (sem 𝓛 (lasts feed.ended (κ', tt) (h, (s, tt)) ws)) (fact 𝓤 (Feeds h s.now r)))
