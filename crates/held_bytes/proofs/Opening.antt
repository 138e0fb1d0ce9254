-- What is left of a lent reader is what the rules say of the call: where a frame is handed out, where more is wanted, and
-- behind a call that went before.
-- Assumes nothing.
use Prim.Native.Nat.{ℕ, ◌+◌, ◌-◌, ◌≤◌}
use Rattle.std.specs.Prelude.{Ok}
use Rattle.stream_rules.specs.declared.Progress.TheVariants.{More, Ready}
use mathlib.Core.Path.{◌≡◌, sym, ap, ◌∙◌}
use mathlib.Core.List.{List}
use native.Mathlib.Nat.{zero-add}
use native.Mathlib.Omega.{arith}
use lib.ListN.{length, drop, length-take, length-drop}
use Rattle.rules.specs.Bytes.{part}
use Rattle.rules.specs.declared.Frame.{Frame}
use Rattle.stream_rules.specs.Rule.{Call, gives, wants}
use Rattle.stream_rules.specs.Streams.{wrap, open_call, filled, holding}
use Rattle.stream_rules.specs.declared.Reader.{Reader}
use Rattle.stream_laws.proofs.CallsAtOnce.{after}
use Rattle.held_bytes.specs.Moves.{handed_out, wanting, later}

-- a reader with these places
abbrev pub with_places : Reader → List ℕ → Reader
with_places r places = record { family = r.family; closed = r.closed; count = r.count; held = places; at = r.at; skipped = r.skipped }

-- a part of the bytes is as long as it says, where they have it
part_long : (work : List ℕ) (from to : ℕ) → from ≤ to → to ≤ length work → to - from ≡ length (part from (to - from) work)
part_long work from to order within = omega (arith, length-take (to - from) (drop from work), length-drop from work)

-- Of a call that keeps a part of some bytes, which stands in the held places.
module _ (r : Reader) (work : List ℕ) (from to : ℕ) (order : from ≤ to) (within : to ≤ length work)
    (c : Call) (places : List ℕ) (is : places ≡ filled (part from (to - from) work)) where
  pub opens_waiting : (n k : ℕ) → c ≡ wants n k (part from (to - from) work) → wanting (with_places r places) n k (to - from) ≡ open_call r c
  opens_waiting n k says =
      (λ i. record {
        reader = record { family = r.family; closed = r.closed; count = part_long work from to order within i; held = is i; at = wrap (r.at + k); skipped = wrap (r.skipped + k) };
        answer = Ok (More n);
      })
      ∙ ap (open_call r) (sym says)

  pub opens_ready : (n k length : ℕ) (f : Frame) → c ≡ gives n k length f (part from (to - from) work)
      → handed_out (with_places r places) n k length f (to - from) ≡ open_call r c
  opens_ready n k length f says =
      (λ i. record {
        reader = record { family = r.family; closed = r.closed; count = part_long work from to order within i; held = is i; at = wrap (r.at + (k + length)); skipped = 0 };
        answer = (handed_out r n k length f (to - from)).answer;
      })
      ∙ ap (open_call r) (sym says)

-- Behind no bytes that were taken before, a call is as it is.
pub from_none : (c : Call) → later 0 c ≡ c
from_none (gives taken k n f kept) = simp zero-add
from_none (wants taken k kept) = simp zero-add

-- A call that goes on where another has come to, after t bytes taken and s skipped.
pub goes_on : (r : Reader) (t s : ℕ) (held : List ℕ) (c : Call)
    → open_call (holding r.family r.closed held (wrap (r.at + s)) (wrap (r.skipped + s))) (later t c) ≡ open_call r (after t s c)
goes_on r t s held (wants n k kept) = λ i. record {
  reader = holding r.family r.closed kept (twice r.at s k i) (twice r.skipped s k i);
  answer = Ok (More (t + n));
}
  where
    -- the sum of two counts wraps as the count on from the first of them
    twice : (a b k : ℕ) → wrap (wrap (a + b) + k) ≡ wrap (a + (b + k))
    twice a b k = omega arith
goes_on r t s held (gives n k m f kept) =
    let on : wrap (wrap (r.at + s) + (k + m)) ≡ wrap (r.at + (s + k + m)) = omega arith in
    let start : wrap (wrap (r.at + s) + k) ≡ wrap (r.at + (s + k)) = omega arith in
    let passed : wrap (wrap (r.skipped + s) + k) ≡ wrap (r.skipped + (s + k)) = omega arith in
    λ i. record {
      reader = holding r.family r.closed kept (on i) 0;
      answer = Ok (Ready (record { taken = t + n; start = start i; skipped = passed i; length = m; frame = f }));
    }
