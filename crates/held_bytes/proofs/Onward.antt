-- How a call goes on behind a piece: a frame that is ready stays so, and where more is wanted, what was kept is the end of
-- the piece, so that the call is the one on the bytes offered from there on.
-- Assumes nothing.
use Prim.Native.Nat.{ℕ, ◌+◌, ◌-◌, ◌≤◌}
use Rattle.std.specs.Prelude.{Ok}
use Rattle.stream_rules.specs.declared.Progress.TheVariants.{More}
use mathlib.Core.Path.{◌≡◌, refl, sym, ap, ◌∙◌}
use mathlib.Core.List.{List, ◌++◌}
use native.Mathlib.Omega.{arith}
use lib.ListN.{length, take, drop, take-append-drop}
use lib.Seq.{length-take-le, drop-drop, take-append_seam, drop-append_seam, drop-append-add}
use Rattle.stream_rules.specs.Heads.{longest, head}
use Rattle.stream_rules.specs.Rule.{Call, gives, wants, call}
use Rattle.stream_laws.proofs.Calls.{call_wants, wants_first, wants_adds_up}
use Rattle.stream_laws.proofs.Families.{facts}
use Rattle.stream_laws.proofs.CallsAtOnce.{after, piece_gives, piece_wants, piece_keeps}
use Rattle.stream_laws.proofs.States.{longest_fits}
use Rattle.stream_rules.specs.Streams.{wrap, holding, held_of, open_call}
use Rattle.stream_rules.specs.declared.Fed.{Fed}
use Rattle.stream_rules.specs.declared.Reader.{Reader}
use Rattle.held_bytes.specs.Moves.{call_on, later, MayHold}
use Rattle.held_bytes.proofs.Opening.{goes_on}
use Rattle.stream_laws.proofs.Jump.{drop_take}

-- The call on a buffer is the call that held its first bytes and was offered the others.
pub call_same : (family : ℕ) (held piece work : List ℕ) → work ≡ held ++ piece
    → call (head family) (take (length held) work) (drop (length held) work) ≡ call (head family) held piece
call_same family held piece work e =
    (λ i. call (head family) (take (length held) (e i)) (drop (length held) (e i)))
    ∙ (λ i. call (head family) (take-append_seam held piece i) (drop-append_seam held piece i))

-- what is kept of the held bytes and a piece that is long enough is the end of the piece
end_of_piece : (held offered kept : List ℕ) (n k : ℕ) → n ≤ length offered → length kept ≤ n → k + length kept ≡ length held + n
    → kept ≡ drop k (held ++ take n offered) → kept ≡ take (length kept) (drop (n - length kept) offered)
end_of_piece held offered kept n k there few adds_up e =
    let from = n - length kept in
    let start : k ≡ length held + from = omega arith in
    let left : n - from ≡ length kept = omega arith in
    e
    ∙ ap (λ (j : ℕ). drop j (held ++ take n offered)) start
    ∙ drop-append-add held (take n offered) from
    ∙ drop_take from n offered
    ∙ ap (λ (j : ℕ). take j (drop from offered)) left

-- Where a piece gave a frame, the call on more bytes gives it too.
module _ (r : Reader) (cs ds : List ℕ) (f : Fed) (opens : f ≡ open_call r (call (head r.family) (held_of r) cs)) where
  pub stays_ready : ((n : ℕ) → f.answer ≡ Ok (More n) → ⊥) → f ≡ open_call r (call (head r.family) (held_of r) (cs ++ ds))
  stays_ready never = by_call (call (head r.family) (held_of r) cs) refl
    where
      by_call : (c : Call) → call (head r.family) (held_of r) cs ≡ c → f ≡ open_call r (call (head r.family) (held_of r) (cs ++ ds))
      by_call (gives taken k n frame kept) is =
          opens ∙ ap (open_call r) (is ∙ sym (piece_gives (facts r.family) (held_of r) cs taken k n frame kept is ds))
      by_call (wants taken k kept) is = absurd (never taken (ap (λ (x : Fed). x.answer) (opens ∙ ap (open_call r) is)))

-- What a piece that wants more says of the rest: how many bytes were taken, that what was kept is short enough to be
-- held, and that a call from there on is the whole call.
pub record Goes (r : Reader) (offered : List ℕ) (s : Reader) (taken : ℕ) : Type 0 where
  pub all_taken : taken ≡ 133
  pub short : MayHold s
  pub whole : open_call s (later taken (call_on s (drop (133 - s.count) offered))) ≡ open_call r (call (head r.family) (held_of r) offered)

module _ (r : Reader) (offered : List ℕ) (there : 133 ≤ length offered) where
  abbrev piece : List ℕ
  piece = take 133 offered

  abbrev more : List ℕ
  more = drop 133 offered

  waits_so : (t k : ℕ) (kept : List ℕ) → call (head r.family) (held_of r) piece ≡ wants t k kept
      → Goes r offered (holding r.family r.closed kept (wrap (r.at + k)) (wrap (r.skipped + k))) t
  waits_so t k kept is =
      let family = r.family in
      let held = held_of r in
      let everything : t ≡ 133 = (call_wants (head family) (longest family) (facts family) held piece t k kept is).everything ∙ length-take-le 133 offered there in
      let sum = wants_adds_up (head family) (longest family) (facts family) held piece t k kept is in
      let adds_up : k + length kept ≡ length held + 133 = sum ∙ ap (λ (n : ℕ). length held + n) everything in
      let few : MayHold (holding family r.closed kept (wrap (r.at + k)) (wrap (r.skipped + k))) = (piece_keeps (facts family) held piece t k kept is).1 in
      let rest = (wants_first (head family) (longest family) (facts family) held piece t k kept is).rest in
      let from = 133 - length kept in
      let end : kept ≡ take (length kept) (drop from offered) = end_of_piece held offered kept 133 k there (omega (arith, longest_fits family)) adds_up rest in
      let all : from + length kept ≡ 133 = omega (arith, longest_fits family) in
      let behind : drop (length kept) (drop from offered) ≡ more = drop-drop (length kept) from offered ∙ ap (λ (n : ℕ). drop n offered) all in
      let onward : call (head family) (take (length kept) (drop from offered)) (drop (length kept) (drop from offered)) ≡ call (head family) kept more =
      λ i. call (head family) (sym end i) (behind i) in
      let the_call : after t k (call (head family) kept more) ≡ call (head family) held offered =
      sym (piece_wants (facts family) held piece t k kept is more) ∙ ap (call (head family) held) (take-append-drop 133 offered) in
      record {
        all_taken = everything;
        short = few;
        whole = ap (λ (c : Call). open_call (holding family r.closed kept (wrap (r.at + k)) (wrap (r.skipped + k))) (later t c)) onward
            ∙ goes_on r t k kept (call (head family) kept more)
            ∙ ap (open_call r) the_call;
      }

  pub waits_on : (f : Fed) (taken : ℕ) → f ≡ open_call r (call (head r.family) (held_of r) piece) → f.answer ≡ Ok (More taken) → Goes r offered f.reader taken
  waits_on f taken opens w = by_call (call (head r.family) (held_of r) piece) refl
    where
      by_call : (c : Call) → call (head r.family) (held_of r) piece ≡ c → Goes r offered f.reader taken
      by_call (gives t k n frame kept) is =
          let fed : f ≡ open_call r (gives t k n frame kept) = opens ∙ ap (open_call r) is in
          let answers = sym w ∙ ap (λ (x : Fed). x.answer) fed in
          let z : ◌≡◌ {A = ℕ} 0 1 = cc in
          absurd (omega arith)
      by_call (wants t k kept) is =
          let fed : f ≡ open_call r (wants t k kept) = opens ∙ ap (open_call r) is in
          let answers : Ok (More taken) ≡ Ok (More t) = sym w ∙ ap (λ (x : Fed). x.answer) fed in
          let same : taken ≡ t = cc in
          rw (same, fed) (waits_so t k kept is)
