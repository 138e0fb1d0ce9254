-- Each family has the four facts that demand 3 needs of it, so what is proved from them holds of its head. They are laws
-- of the head of a list. Assumes nothing.
use Prim.Native.Nat.{ℕ, ◌+◌, ◌-◌, ◌≤◌, ◌<◌}
use Rattle.stream_rules.specs.declared.Progress.TheVariants.{Ready}
use mathlib.Core.Path.{◌≡◌, sym, ap, subst, ◌∙◌}
use mathlib.Core.List.{List}
use native.Mathlib.Omega.{arith}
use lib.ListN.{length, take, drop, length-take, length-drop}
use Rattle.stream_rules.specs.Heads.{longest, head}
use Rattle.stream_rules.specs.Streams.{Feeds}
use Rattle.stream_rules.specs.declared.Reader.{Reader}
use Rattle.stream_rules.specs.declared.Ready as ReadyType
use Rattle.stream_rules.specs.declared.Fed.{Fed}
use Rattle.stream_laws.proofs.Heads.{GoodHead, good_head, stays, decided, empty}
use Rattle.stream_laws.proofs.Facts.{Facts}
use Rattle.stream_laws.proofs.States.{Onward, onward}
use Rattle.std.specs.Prelude.{Ok}

pub facts : (family : ℕ) → Facts (head family) (longest family)
facts family = record {
  fits = λ bs n f e. let g : GoodHead family bs n f = good_head family bs n f e in (g.some, g.short, g.there);
  stays = stays family;
  decided = decided family;
  empty = empty family;
}

-- So whatever meets the promise of a call goes on with each frame that it hands out.
pub goes_on : (r : Reader) (offered : List ℕ) (f : Fed) (x : ReadyType.Ready) → Feeds r offered f → f.answer ≡ Ok (Ready x)
    → Onward r offered x.taken f.reader
goes_on r offered f x feeds is =
    subst
    (λ (a : Fed). Onward r offered x.taken a.reader)
    (sym feeds.answers)
    (onward r offered (facts r.family) x (sym (ap (λ (a : Fed). a.answer) feeds.answers) ∙ is))

-- In a loop that offers the bytes from a place on: the place stays inside, and fewer bytes are held and left.
pub record Fewer (r after : Reader) (offered : List ℕ) (at taken : ℕ) : Type 0 where
  pub inside : at + taken ≤ length offered
  pub less : after.count + (length offered - (at + taken)) < r.count + (length offered - at)

pub offers_rest : (r : Reader) (offered : List ℕ) (at : ℕ) (f : Fed) (x : ReadyType.Ready) → at ≤ length offered
    → Feeds r (take (length offered - at) (drop at offered)) f → f.answer ≡ Ok (Ready x) → Fewer r f.reader offered at x.taken
offers_rest r offered at f x inside feeds is =
    let on = goes_on r (take (length offered - at) (drop at offered)) f x feeds is in
    let front = length-take (length offered - at) (drop at offered) in
    let rest = length-drop at offered in
    record { inside = omega (arith, on.within, front, rest); less = omega (arith, on.within, on.fewer, front, rest) }
