-- Where any frame is wanted, what is given is what the lister's second entry gives from the same place: the same bytes, from
-- the same start.
-- Assumes nothing.
use Prim.Native.Nat.{ℕ, ◌+◌}
use mathlib.Core.Path.{◌≡◌, refl, ap}
use mathlib.Core.Bool.{Bool, true, false, ◌&&◌, cond}
use mathlib.Core.List.{List, []}
use lib.Dec.{leb}
use lib.ListN.{length, take, drop}
use lib.Seq.{drop-drop}
use Rattle.rules.specs.Bytes.{part}
use Rattle.rules.specs.Answers.{is_family}
use Rattle.stream_rules.specs.Heads.{head, longest, at_close}
use Rattle.stream_rules.specs.Rule.{Look, ready, waiting, look, by_look}
use Rattle.stream_rules.specs.Lister.{fits, first_frame, first_place, frame_from, place_from}
use Rattle.stream_laws.proofs.Looks.{drains, rule_drains}
use Rattle.stream_laws.proofs.Families.{facts}
use Rattle.search.proofs.Walk.{left}
use Rattle.captures.specs.declared.spans.Span.{Span}
use Rattle.std.specs.Prelude.{Option, None}
use Rattle.captures.specs.Finds.{start_of, length_of, first_wanted, next_in}

module _ (family : ℕ) (bs : List ℕ) (place : ℕ) where
  abbrev Same : List ℕ → ℕ → Option Span → Type 0
  Same bytes at s = (bytes ≡ part (start_of s) (length_of s) bs) × (at ≡ start_of s)

  by-look : (l : Look)
      → Same (by_look l (λ k n f behind. part k n (drop place bs)) (λ k rest. [])) (by_look l (λ k n f behind. place + k) (λ k rest. 0)) (first_wanted false (drains (head family) place 0 l))
  unfolding first_wanted
  by-look (ready k n f behind) = (ap (take n) (drop-drop k place bs), refl)
  by-look (waiting k rest) = (refl, refl)

  first_same : Same (first_frame family (drop place bs)) (first_place family (drop place bs) place) (first_wanted false (left family bs place))
  first_same =
      rw (rule_drains (head family) (longest family) (facts family) (drop place bs) place 0) (by-look (look (at_close (head family)) (drop place bs)))

  pub next_agrees : Same (frame_from family bs place) (place_from family bs place) (next_in family bs place false)
  unfolding frame_from place_from next_in
  next_agrees = case (is_family family && fits bs && leb place (length bs))
    where
      case : (b : Bool)
          → Same (cond b (first_frame family (drop place bs)) []) (cond b (first_place family (drop place bs) place) 0)
          (cond b (first_wanted false (left family bs place)) None)
      case true = first_same
      case false = (refl, refl)
