-- A call on few bytes, which stand with the held ones at the front of the places: what a search finds there, and the
-- row that it has laid, are those of the call; and what is kept of them is what the call keeps.
-- Assumes nothing.
use Prim.Native.Nat.{ℕ, max, ◌+◌, ◌-◌, ◌^◌, ◌≤◌, ◌<◌}
use mathlib.Core.Path.{◌≡◌, refl, sym, ap, subst, ◌∙◌}
use mathlib.Core.List.{List, ◌++◌}
use native.Mathlib.Nat.{add-zero}
use native.Mathlib.Omega.{arith}
use lib.IntN.{ℤ}
use lib.ListN.{length, take, drop, length-append}
use lib.Seq.{take_all}
use Rattle.rules.specs.Bytes.{part}
use Rattle.stream_rules.specs.Heads.{longest, head}
use Rattle.stream_rules.specs.Rule.{call}
use Rattle.stream_rules.specs.Streams.{wrap, open_call, fed, filled, held_of}
use Rattle.stream_rules.specs.declared.Reader.{Reader}
use Rattle.stream_laws.proofs.States.{open-call}
use Rattle.search.specs.Sought.{sought_in}
use Rattle.row_stream.specs.RowSought.{stop_of, row_of, SeeksRow}
use Rattle.search.specs.declared.Hit.{Hit}
use Rattle.search.specs.declared.Sought.{Sought}
use Rattle.search.specs.declared.Sought.TheVariants.{Ready, Waiting}
use Rattle.search.specs.declared.Stop.{Stop}
use Rattle.rows.specs.Rows.{row_without, front}
use Rattle.held_bytes.specs.Moves.{call_on, counted_on}
use Rattle.held_bytes.proofs.Closing.{held_long}
use Rattle.held_bytes.proofs.Cutting.{cut_waiting, cut_ready}
use Rattle.std.specs.Prelude.{Some, None, unwrap_or}
use Rattle.held_bytes.proofs.Opening.{with_places, opens_waiting, opens_ready}
use Rattle.held_bytes.proofs.Onward.{call_same}
use Rattle.row_stream.specs.FedRows.{FeedsRow}
use Rattle.row_stream.specs.Short.{IsPlain, IsFew}
use Rattle.row_stream.proofs.Laid.{with_frame, wanting}

-- how far a frame at a stop goes, and how many bytes are left behind it
abbrev pub behind : Stop → ℕ
behind p = p.at + unwrap_or p.length 0

abbrev pub left_of : Stop → ℕ
left_of p = p.reach - behind p

-- what a stop says of the call: the bytes that it keeps are there, and with the row it is the call on the few
abbrev pub Kept : Stop → List ℕ → List ℕ → Type 0
Kept p bytes kept = kept ≡ filled (part (behind p) (left_of p) bytes)

abbrev FedTo : Reader → List ℕ → List ℤ → Stop → List ℕ → ℕ → List ℤ → Type 0
FedTo r few numbers p kept passed after = FeedsRow r few numbers 0 (counted_on (with_places r kept) (left_of p) (r.at + behind p) passed) after

pub record FewAt (r : Reader) (few bytes : List ℕ) (numbers after : List ℤ) (p : Stop) : Type 0 where
  pub order : behind p ≤ p.reach
  pub within : p.reach ≤ length bytes
  pub short : left_of p < longest r.family
  pub waits : p.length ≡ None → (kept : List ℕ) → Kept p bytes kept → FedTo r few numbers p kept (r.skipped + behind p) after
  pub hands : (n : ℕ) → p.length ≡ Some n → (kept : List ℕ) → Kept p bytes kept → FedTo r few numbers p kept 0 after

module _ (r : Reader) (few bytes : List ℕ) (numbers : List ℤ)
    (plain : IsPlain r numbers) (a_few : IsFew r (length few)) (long : length r.held ≡ 133) (are : bytes ≡ held_of r ++ few) where
  size : length (held_of r) ≡ r.count
  size = held_long r a_few.low long

  pub bytes_long : length bytes ≡ r.count + length few
  bytes_long = ap length are ∙ length-append (held_of r) few ∙ ap (λ (n : ℕ). n + length few) size

  -- a call that the bytes make is the call on the few
  few_fed : fed r few ≡ open_call r (call_on r bytes)
  few_fed =
      open-call r few a_few.a_family (omega (arith, a_few.low)) plain.opened
      ∙ ap (open_call r)
      (sym (ap (λ (n : ℕ). call (head r.family) (take n bytes) (drop n bytes)) (sym size) ∙ call_same r.family (held_of r) few bytes are))

  waiting_at : (after : List ℤ) (from : ℕ) → sought_in r.family bytes ≡ Waiting from → after ≡ front (row_of r (length bytes) (Waiting from)) numbers
      → FewAt r few bytes numbers after (stop_of (length bytes) r.count (Waiting from))
  waiting_at after from e stands =
      let cuts = cut_waiting r.family bytes r.count (omega (arith, bytes_long)) a_few.low from e in
      record {
        order = omega (arith, cuts.order);
        within = omega arith;
        short = omega (arith, cuts.short);
        waits = λ none kept is.
            let stays = is ∙ ap (λ (k : ℕ). filled (part k (length bytes - k) bytes)) (add-zero from) in
            let opens = opens_waiting r bytes from (length bytes) cuts.order cuts.within _ kept stays _ _ cuts.is in
            wanting r few numbers after plain.row _ _ (few_fed ∙ sym opens ∙ simp add-zero) stands;
        hands = λ n some kept is. cc;
      }

  -- where the first start stays undecided, all bytes are kept
  pub goes_on : sought_in r.family bytes ≡ Waiting 0 → r.at < 2 ^ 32 → r.skipped < 2 ^ 32 → (after : List ℤ) → after ≡ front (row_without 5 (length few)) numbers
      → (kept : List ℕ) → kept ≡ filled bytes
      → FeedsRow r few numbers 0 (record { family = r.family; closed = r.closed; count = r.count + length few; held = kept; at = r.at; skipped = r.skipped }) after
  goes_on e low less after stands kept is =
      let taken : length few ≡ length bytes - r.count = omega (arith, bytes_long) in
      let start : wrap (r.at + (0 + 0)) ≡ r.at = omega arith in
      let passed : wrap (r.skipped + (0 + 0)) ≡ r.skipped = omega arith in
      let many : length bytes - (0 + 0) ≡ r.count + length few = omega (arith, bytes_long) in
      let fed_so =
      (waiting_at after 0 e (stands ∙ ap (λ (n : ℕ). front (row_without 5 n) numbers) taken)).waits refl kept
      (is ∙ ap filled (sym (take_all (length bytes - (0 + 0)) bytes (omega arith)))) in
      rw (start, passed, many) at fed_so

  ready_at : (after : List ℤ) (hit : Hit) → sought_in r.family bytes ≡ Ready hit → after ≡ front (row_of r (length bytes) (Ready hit)) numbers
      → FewAt r few bytes numbers after (stop_of (length bytes) r.count (Ready hit))
  ready_at after hit e stands =
      let to = max hit.reach r.count in
      let from = hit.start + hit.length in
      let cuts = cut_ready r.family bytes r.count (omega (arith, bytes_long)) a_few.low hit to e refl in
      record {
        order = omega (arith, cuts.order);
        within = omega (arith, cuts.within);
        short = omega (arith, cuts.short);
        waits = λ none kept is. cc;
        hands = λ n some kept is.
            let opens = opens_ready r bytes from to cuts.order cuts.within _ kept is _ _ _ _ cuts.is in
            with_frame r few numbers after plain.row _ _ (few_fed ∙ sym opens) stands;
      }

  pub few_at : (p : Stop) (after : List ℤ) → SeeksRow r bytes numbers p after → FewAt r few bytes numbers after p
  few_at p after s = subst (FewAt r few bytes numbers after) (sym s.found) (by_sought (sought_in r.family bytes) refl s.laid)
    where
      by_sought : (x : Sought) → sought_in r.family bytes ≡ x → after ≡ front (row_of r (length bytes) (sought_in r.family bytes)) numbers
          → FewAt r few bytes numbers after (stop_of (length bytes) r.count (sought_in r.family bytes))
      by_sought (Waiting from) e stands = rw e (waiting_at after from e (rw e at stands))
      by_sought (Ready hit) e stands = rw e (ready_at after hit e (rw e at stands))
