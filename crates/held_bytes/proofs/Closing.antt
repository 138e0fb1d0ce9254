-- What the first good frame of the held bytes is to a closed reader.
-- Assumes nothing.
use Prim.Native.Nat.{ℕ, ◌+◌, ◌-◌, ◌≤◌}
use mathlib.Core.Path.{◌≡◌, refl, sym, ap, subst₃, ◌∙◌}
use mathlib.Core.List.{List, []}
use native.Mathlib.Nat.{zero-add}
use native.Mathlib.Omega.{arith}
use lib.ListN.{length, drop, length-drop}
use lib.Seq.{length-take-le}
use Rattle.rules.specs.Bytes.{part}
use Rattle.rules.specs.declared.Frame.{Frame}
use Rattle.stream_rules.specs.Heads.{longest, head, at_close}
use Rattle.stream_rules.specs.Rule.{Look, ready, waiting, look, by_look}
use Rattle.stream_laws.proofs.Looks.{look_ready, drained_all}
use Rattle.stream_laws.proofs.Calls.{drain_adds_up}
use Rattle.stream_laws.proofs.Families.{facts}
use Rattle.stream_laws.proofs.Jump.{drop_take}
use Rattle.stream_laws.proofs.States.{longest_fits}
use Rattle.search.specs.Sought.{first_from}
use Rattle.std.specs.Prelude.{Option, Some, None}
use Rattle.search.specs.declared.First.{First}
use Rattle.stream_rules.specs.Streams.{closed_call, filled, held_of}
use Rattle.stream_rules.specs.declared.Reader.{Reader}
use Rattle.held_bytes.specs.Moves.{handed_out, done_by, MayHold}
use Rattle.held_bytes.proofs.Opening.{with_places}

-- The first good frame is there as a whole, and a look at close finds it.
pub record Drained (family : ℕ) (bs : List ℕ) (start long : ℕ) (f : Frame) : Type 0 where
  pub there : start + long ≤ length bs
  pub looks : look (at_close (head family)) bs ≡ ready start long f (drop (start + long) bs)

module _ (family : ℕ) (bs : List ℕ) where
  from_look : (k n : ℕ) (f : Frame) (behind : List ℕ) → look (at_close (head family)) bs ≡ ready k n f behind → Drained family bs k n f
  from_look k n f behind e =
      record {
        there = let all = drain_adds_up (head family) (longest family) (facts family) bs k n f behind e in omega arith;
        looks = e ∙ ap (ready k n f) (look_ready (at_close (head family)) bs k n f behind e).rest;
      }

  pub drained : (x : First) → first_from family bs 0 ≡ Some x → Drained family bs x.start x.length x.frame
  unfolding first_from
  drained x e = case (look (at_close (head family)) bs) refl e
    where
      case : (l : Look) → look (at_close (head family)) bs ≡ l
          → by_look l (λ k n g behind. Some (record { start = 0 + k; length = n; frame = g })) (λ k rest. None) ≡ Some x → Drained family bs x.start x.length x.frame
      case (waiting k rest) is p = let z : ◌≡◌ {A = ℕ} 0 1 = cc in absurd (omega arith)
      case (ready k n g behind) is p =
          let same : record { start = 0 + k; length = n; frame = g } ≡ x = cc in
          let first : k ≡ x.start = sym (zero-add k) ∙ ap (λ (y : First). y.start) same in
          subst₃ (Drained family bs) first (ap (λ (y : First). y.length) same) (ap (λ (y : First). y.frame) same) (from_look k n g behind is)

  -- Where there is none, every byte is skipped.
  pub emptied : first_from family bs 0 ≡ None → look (at_close (head family)) bs ≡ waiting (length bs) []
  unfolding first_from
  emptied e = case (look (at_close (head family)) bs) refl e
    where
      case : (l : Look) → look (at_close (head family)) bs ≡ l
          → ◌≡◌ {A = Option First} (by_look l (λ k n g behind. Some (record { start = 0 + k; length = n; frame = g })) (λ k rest. None)) None → look (at_close (head family)) bs ≡ waiting (length bs) []
      case (ready k n g behind) is p = let z : ◌≡◌ {A = ℕ} 0 1 = cc in absurd (omega arith)
      case (waiting k rest) is p = let all = drained_all (head family) bs k rest is in is ∙ (λ i. waiting (all.0 i) (all.1 i))

-- Of a reader that holds no more than it may.
module _ (r : Reader) (may : MayHold r) (long : length r.held ≡ 133) where
  pub held_long : length (held_of r) ≡ r.count
  held_long = length-take-le r.count r.held (omega (arith, longest_fits r.family))

  -- the answer with that frame, from the places behind it
  pub drained_answer : (start n : ℕ) (f : Frame) → Drained r.family (held_of r) start n f
      → (places : List ℕ) → places ≡ filled (part (start + n) (r.count - (start + n)) r.held)
      → handed_out (with_places r places) 0 start n f (r.count - (start + n)) ≡ closed_call r (look (at_close (head r.family)) (held_of r))
  drained_answer start n f d places e =
      let behind = start + n in
      let rest = drop behind (held_of r) in
      let left : length rest ≡ r.count - behind = length-drop behind (held_of r) ∙ ap (λ (k : ℕ). k - behind) held_long in
      let stand : places ≡ filled rest = e ∙ ap filled (sym (drop_take behind r.count r.held)) in
      (λ i. handed_out (with_places r (stand i)) 0 start n f (sym left i))
      ∙ ap (closed_call r) (sym d.looks)

  -- and where there is none
  pub emptied_answer : first_from r.family (held_of r) 0 ≡ None
      → done_by (with_places r (filled [])) r.count ≡ closed_call r (look (at_close (head r.family)) (held_of r))
  emptied_answer none = ap (λ (k : ℕ). closed_call r (waiting k [])) (sym held_long) ∙ ap (closed_call r) (sym (emptied r.family (held_of r) none))
