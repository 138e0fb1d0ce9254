-- A report or a sentence that has begun in the held bytes and goes on in those offered: the first start stays undecided.
-- Assumes nothing.
use Prim.Native.Nat.{ℕ, ◌+◌, ◌-◌, ◌≤◌, ◌<◌}
use mathlib.Core.Path.{◌≡◌, refl, sym, ap, ◌∙◌}
use mathlib.Core.Bool.{Bool, true}
use mathlib.Core.List.{List, ◌++◌}
use native.Mathlib.Omega.{arith}
use lib.ListN.{length, drop, get_or, length-append, length-drop, get_or-append}
use lib.Seq.{length-take-le, get_or-take, drop-append-le}
use Rattle.rules.specs.Bytes.{part, every}
use Rattle.stream_rules.specs.Streams.{held_of}
use Rattle.stream_rules.specs.declared.Reader.{Reader}
use Rattle.stream_rules.specs.Heads.{sentence_brackets, is_inner, wait, head}
use Rattle.frame_laws.proofs.Bytes.{every_append}
use Rattle.stream_laws.proofs.Runs.{run, run_all}
use Rattle.stream_laws.proofs.Bracketed.{bracketed}
use Rattle.stream_laws.proofs.BracketStarts.{inner_open}
use Rattle.spe.proofs.Beginning.{begun, still_begun}
use Rattle.stream_laws.proofs.Jump.{drop_take}
use Rattle.search.proofs.Stopping.{begins, stops_waiting}
use Rattle.search.proofs.Searching.{waiting, begun_waits}
use Rattle.row_stream.specs.Going.{ReportGoesOn, SentenceGoesOn, GoesOn}
use Rattle.row_stream.proofs.Front.{family_1, family_2}

module _ (r : Reader) (others : List ℕ) (long : length r.held ≡ 133) where
  abbrev bytes : List ℕ
  bytes = held_of r ++ others

  -- the held bytes are in front
  held_size : r.count ≤ 133 → length (held_of r) ≡ r.count
  held_size low = length-take-le r.count r.held (omega arith)

  size : r.count ≤ 133 → length bytes ≡ r.count + length others
  size low = length-append (held_of r) others ∙ ap (λ (n : ℕ). n + length others) (held_size low)

  first_stands : 0 < r.count → r.count ≤ 133 → get_or bytes 0 0 ≡ get_or r.held 0 0
  first_stands some low =
      get_or-append (held_of r) others 0 0 (omega (arith, held_size low))
      ∙ get_or-take r.count r.held 0 0 some

  pub report_goes_on : r.family ≡ 1 → ReportGoesOn r (length others) → GoesOn r others
  report_goes_on family g =
      let few : length bytes < 75 = omega (arith, size (omega (arith, g.short)), g.short) in
      let starts = still_begun (held_of r) others (begun (held_of r) g.begun) in
      record {
        few = record { a_family = rw family family_1; low = rw family (omega (arith, g.short)); behind = omega (arith, g.short) };
        undecided = rw family (sym (waiting 1 bytes _ (begun_waits bytes starts (omega (arith, few))) refl));
      }

  pub sentence_goes_on : r.family ≡ 2 → SentenceGoesOn r others → GoesOn r others
  sentence_goes_on family g =
      let low : r.count ≤ 133 = omega (arith, g.short) in
      let held_behind = part 1 (r.count - 1) r.held in
      let inner : ℕ → Bool = is_inner sentence_brackets in
      let behind : drop 1 bytes ≡ held_behind ++ others =
      drop-append-le 1 (held_of r) others (omega (arith, g.some, held_size low))
      ∙ ap (λ (l : List ℕ). l ++ others) (drop_take 1 r.count r.held) in
      let payload : every inner (drop 1 bytes) ≡ true =
      ap (every inner) behind ∙ every_append inner held_behind others g.payload_held g.payload_offered in
      let all : run sentence_brackets bytes ≡ r.count + length others - 1 = run_all sentence_brackets (drop 1 bytes) payload ∙ length-drop 1 bytes ∙ ap (λ (n : ℕ). n - 1) (size low) in
      let undecided : head 2 bytes ≡ wait =
      inner_open 2 (bracketed 2 refl) bytes (omega (arith, size low, g.some)) (first_stands g.some low ∙ g.dollar) (r.count + length others - 1) all (omega (arith, g.short)) (omega (arith, size low)) in
      record {
        few = record { a_family = rw family family_2; low = rw family (omega (arith, g.short)); behind = omega (arith, g.short) };
        undecided = rw family (sym (waiting 2 bytes _ (stops_waiting 2 bytes 0 0 0 0 (begins 2 bytes 0 0) undecided) refl));
      }
