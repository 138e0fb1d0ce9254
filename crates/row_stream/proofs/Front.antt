-- A call on a reader that holds nothing, with a good frame at the front of what is offered: it takes the frame's bytes,
-- hands it out and keeps nothing.
-- Assumes nothing.
use Prim.Native.Nat.{ℕ, ◌+◌, ◌^◌, ◌≤◌, ◌<◌}
use mathlib.Core.Path.{◌≡◌, refl, sym, ap, subst, ◌∙◌}
use mathlib.Core.Bool.{true}
use mathlib.Core.List.{List, []}
use native.Mathlib.Nat.{zero-add, sub-zero}
use native.Mathlib.Omega.{arith}
use lib.IntN.{ℤ}
use lib.ListN.{length, take, drop, length-take, drop_of_length-le}
use Rattle.rules.specs.Bytes.{one_of}
use Rattle.rules.specs.Answers.{is_family, read_one}
use Rattle.rules.specs.declared.Frame.{Frame}
use Rattle.std.specs.Prelude.{Ok}
use Rattle.stream_rules.specs.Heads.{good, head}
use Rattle.stream_rules.specs.Rule.{ready, look, gives, call}
use Rattle.stream_laws.specs.Settled.{reach}
use Rattle.stream_rules.specs.Streams.{wrap, open_call, holding, held_of}
use Rattle.stream_rules.specs.declared.Reader.{Reader}
use Rattle.stream_laws.proofs.Heads.{complete, good_head}
use Rattle.stream_laws.proofs.States.{open-call}
use Rattle.stream_laws.proofs.Families.{facts}
use Rattle.stream_laws.proofs.Starts.{look_at_good}
use Rattle.stream_laws.proofs.Jump.{jump}
use Rattle.rows.specs.Rows.{longest_row, row, front}
use Rattle.row_stream.specs.FedRows.{FeedsRow}
use Rattle.row_stream.specs.Short.{FrontRow}
use Rattle.row_stream.proofs.Laid.{with_frame}

module _ (r : Reader) (offered : List ℕ) (n : ℕ) (f : Frame) (a_family : is_family r.family ≡ true) (opened : r.closed ≡ 0) (holds_none : r.count ≡ 0)
    (there : n ≤ length offered) (read : read_one r.family (take n offered) ≡ Ok f) where
  here : head r.family offered ≡ good n f
  here = complete r.family offered n f there read

  looks : look (head r.family) offered ≡ ready 0 n f (drop (0 + n) offered)
  looks = look_at_good (facts r.family) offered 0 n f (λ j low. absurd (omega arith)) here

  settled_by : n ≡ reach r.family 1 offered
  unfolding reach
  settled_by = omega (arith, (good_head r.family offered n f here).settles)

  none_kept : drop (0 + n) (take n offered) ≡ []
  none_kept = drop_of_length-le (take n offered) {i = 0 + n} (omega (arith, length-take n offered))

  called : call (head r.family) (held_of r) offered ≡ gives n 0 n f []
  called =
      ap (λ (k : ℕ). call (head r.family) (take k r.held) offered) holds_none
      ∙ (jump r.family [] offered 0 n f _ looks n (omega (arith, settled_by))).answer
      ∙ (λ i. gives (sub-zero n i) 0 n f (none_kept i))

  front_row : (numbers after : List ℤ) → longest_row ≤ length numbers → after ≡ front (row n (wrap (r.at + 0)) (wrap (r.skipped + 0)) n f) numbers
      → FeedsRow r offered numbers 0 (holding r.family r.closed [] (wrap (r.at + n)) 0) after
  front_row numbers after room stands =
      with_frame r offered numbers after room _
      (record { taken = n; start = wrap (r.at + 0); skipped = wrap (r.skipped + 0); length = n; frame = f })
      (open-call r offered a_family (omega arith) opened
      ∙ ap (open_call r) called
      ∙ simp zero-add)
      stands

  -- the frame is handed out: the reader holds nothing more, and its row stands there
  pub frame_there : (numbers after : List ℤ) (s : Reader) → longest_row ≤ length numbers → r.at < 2 ^ 32 → r.skipped < 2 ^ 32
      → after ≡ front (row n r.at r.skipped n f) numbers → s ≡ holding r.family r.closed [] (wrap (r.at + n)) 0
      → FrontRow r offered numbers true s after
  frame_there numbers after s room low less stands is =
      let start : r.at ≡ wrap (r.at + 0) = omega arith in
      let passed : r.skipped ≡ wrap (r.skipped + 0) = omega arith in
      record {
        none = λ wrong. let z : ◌≡◌ {A = ℕ} 0 1 = cc in absurd (omega arith);
        handed = λ told.
            subst (λ (x : Reader). FeedsRow r offered numbers 0 x after) (sym is)
            (front_row numbers after room (stands ∙ (λ i. front (row n (start i) (passed i) n f) numbers)));
      }

-- the families
pub family_1 : is_family 1 ≡ true
unfolding one_of
family_1 = refl

pub family_2 : is_family 2 ≡ true
unfolding one_of
family_2 = refl

pub family_3 : is_family 3 ≡ true
unfolding one_of
family_3 = refl
