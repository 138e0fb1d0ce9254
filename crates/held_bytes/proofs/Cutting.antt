-- What a search of a buffer says of the call that held its first bytes and was offered the others: more is wanted, or a
-- frame was ready with the byte that settled the last of the starts up to it.
-- Assumes nothing.
use Prim.Native.Nat.{ℕ, suc, max, ◌+◌, ◌-◌, ◌≤◌, ◌<◌}
use mathlib.Core.Path.{◌≡◌, refl, sym, ap, ◌∙◌}
use mathlib.Core.List.{List, ◌++◌}
use native.Mathlib.Omega.{arith}
use lib.ListN.{length, take, drop, length-drop, take-append-drop}
use lib.Seq.{length-take-le}
use Rattle.rules.specs.Bytes.{part}
use Rattle.stream_rules.specs.Heads.{longest, head}
use Rattle.stream_rules.specs.Rule.{Look, ready, waiting, look, by_look, Call, gives, wants, call}
use Rattle.stream_laws.specs.Settled.{reach}
use Rattle.stream_laws.proofs.Lists.{whole_rest}
use Rattle.stream_laws.proofs.Looks.{OpenFirst, look_waiting}
use Rattle.stream_laws.proofs.Families.{facts}
use Rattle.stream_laws.proofs.Calls.{wanted_call}
use Rattle.stream_laws.proofs.CallsAtOnce.{piece_keeps}
use Rattle.stream_laws.proofs.Jump.{Jump, jump, taken_by, drop_take}
use Rattle.search.specs.Sought.{sought_in}
use Rattle.search.specs.declared.Hit.{Hit}
use Rattle.search.specs.declared.Sought.TheVariants.{Ready, Waiting}

module _ (family : ℕ) (work : List ℕ) where
  -- what a search answers is what a look finds
  pub waits : (at : ℕ) → sought_in family work ≡ Waiting at → (rest : List ℕ) × (look (head family) work ≡ waiting at rest)
  unfolding sought_in
  waits at e = case (look (head family) work) refl e
    where
      case : (l : Look) → look (head family) work ≡ l
          → by_look l (λ k n f behind. Ready (record { start = k; length = n; reach = reach family (suc k) work; frame = f })) (λ k rest. Waiting k) ≡ Waiting at
          → (rest : List ℕ) × (look (head family) work ≡ waiting at rest)
      case (waiting k rest) is q = let same : k ≡ at = cc in (rest, is ∙ ap (λ (j : ℕ). waiting j rest) same)
      case (ready k n f behind) is q = let z : ◌≡◌ {A = ℕ} 0 1 = cc in absurd (omega arith)

  pub finds : (hit : Hit) → sought_in family work ≡ Ready hit
      → (behind : List ℕ) × (look (head family) work ≡ ready hit.start hit.length hit.frame behind) × (hit.reach ≡ reach family (suc hit.start) work)
  unfolding sought_in
  finds hit e = case (look (head family) work) refl e
    where
      case : (l : Look) → look (head family) work ≡ l
          → by_look l (λ k n f behind. Ready (record { start = k; length = n; reach = reach family (suc k) work; frame = f })) (λ k rest. Waiting k) ≡ Ready hit
          → (behind : List ℕ) × (look (head family) work ≡ ready hit.start hit.length hit.frame behind) × (hit.reach ≡ reach family (suc hit.start) work)
      case (waiting k rest) is q = let z : ◌≡◌ {A = ℕ} 0 1 = cc in absurd (omega arith)
      case (ready k n f behind) is q =
          let same : record { start = k; length = n; reach = reach family (suc k) work; frame = f } ≡ hit = cc in (
            behind,
            is ∙ (λ i. ready (same i).start (same i).length (same i).frame behind),
            sym (ap (λ (x : Hit). x.reach) same) ∙ ap (λ (x : Hit). reach family (suc x.start) work) same,
          )

-- What a call on the bytes says, which keeps a part of them.
pub record Cuts (family : ℕ) (work : List ℕ) (count from to : ℕ) (says : List ℕ → Call) : Type 0 where
  pub is : call (head family) (take count work) (drop count work) ≡ says (part from (to - from) work)
  pub order : from ≤ to
  pub within : to ≤ length work
  pub short : to - from < longest family

module _ (family : ℕ) (work : List ℕ) (count : ℕ) (there : count ≤ length work) (few : count < longest family) where
  abbrev held : List ℕ
  held = take count work

  abbrev others : List ℕ
  others = drop count work

  both : held ++ others ≡ work
  both = take-append-drop count work

  size : length held ≡ count
  size = length-take-le count work there

  pub cut_waiting : (at : ℕ) → sought_in family work ≡ Waiting at → Cuts family work count at (length work) (wants (length work - count) at)
  cut_waiting at e =
      let found = waits family work at e in
      let rest = found.0 in
      let here : look (head family) (held ++ others) ≡ waiting at rest = ap (look (head family)) both ∙ found.1 in
      let called : call (head family) held others ≡ wants (length others) at rest = wanted_call (head family) (longest family) (facts family) held others at rest here in
      let open_start : OpenFirst (head family) work at rest = look_waiting (head family) work at rest found.1 in
      let kept : rest ≡ part at (length work - at) work = open_start.rest ∙ sym (whole_rest work at) in
      let short = (piece_keeps (facts family) held others (length others) at rest called).1 in
      record {
        is = called ∙ (λ i. wants (length-drop count work i) at (kept i));
        order = open_start.place;
        within = omega arith;
        short = omega (arith, short, ap length open_start.rest, length-drop at work);
      }

  pub cut_ready : (hit : Hit) (to : ℕ) → sought_in family work ≡ Ready hit → to ≡ max hit.reach count
      → Cuts family work count (hit.start + hit.length) to (gives (to - count) hit.start hit.length hit.frame)
  cut_ready hit to e up =
      let k = hit.start in
      let n = hit.length in
      let f = hit.frame in
      let found = finds family work hit e in
      let here : look (head family) (held ++ others) ≡ ready k n f found.0 = ap (look (head family)) both ∙ found.1 in
      let reaches : reach family (suc k) (held ++ others) ≡ reach family (suc k) work = ap (reach family (suc k)) both in
      let up_to : to ≡ taken_by family held others k = omega (arith, up, found.2, reaches, size) in
      let j : Jump family held others k n f to = jump family held others k n f found.0 here to up_to in
      let kept = ap (λ (l : List ℕ). drop (k + n) (take to l)) both ∙ drop_take (k + n) to work in
      record {
        is = j.answer ∙ (λ i. gives (to - size i) k n f (kept i));
        order = j.whole;
        within = omega (arith, j.there, ap length both);
        short = j.short (omega (arith, size));
      }
