-- `vectors::panel::print_offered` goes on with the run until all bytes are offered, and ends: with each frame fewer bytes are held
-- and left to offer.
-- Assumes nothing.
use Rattle.std.proofs.Common.{Ok, subst, length, ◌≡◌, ℕ, ◌≤◌, Bool, true, false, not, cond, List, sym, refl, ap, ◌∙◌, arith, length-take, length-drop}
use borrow.Author.Tests.{leb-true}
use lib.Dec.{leb}
use Rattle.rules.specs.declared.Refusal.TheVariants.{NoFamily, HoldsTooMuch}
use Rattle.rules.specs.Answers.{is_family}
use Rattle.stream_rules.specs.Streams.{holds, refuse, fed, Feeds}
use Rattle.stream_rules.specs.declared.Progress.TheVariants.{Ready}
use Rattle.stream_rules.specs.declared.Reader.{Reader}
use Rattle.stream_rules.specs.declared.Fed.{Fed}
use Rattle.stream_rules.specs.declared.Ready as ReadyType
use Rattle.stream_laws.proofs.Families.{goes_on}
use Rattle.stream_laws.proofs.States.{longest_fits}
use Rattle.vectors.specs.Courses.{Course, at_first, Comes, here}
use Rattle.vectors.proofs.Courses.{framed, frameless, is_ready, piece_after, none_after, behind, piece_behind}
use Rattle.vectors.proofs.panel.print_offered.Goals as goal

-- a reader that holds too much hands out no frame
not_too_much : (known few : Bool) (r : Reader) (others : Fed) (x : ReadyType.Ready)
    → (cond (not known) (refuse r NoFamily) (cond (not few) (refuse r HoldsTooMuch) others)).answer ≡ Ok (Ready x) → few ≡ true
not_too_much false few r others x e = let z : ◌≡◌ {A = ℕ} 0 1 = cc in absurd (omega arith)
not_too_much true false r others x e = let z : ◌≡◌ {A = ℕ} 0 1 = cc in absurd (omega arith)
not_too_much true true r others x e = refl

few_held : (r : Reader) (offered : List ℕ) (f : Fed) (x : ReadyType.Ready) → Feeds r offered f → f.answer ≡ Ok (Ready x) → r.count ≤ 255
unfolding fed
few_held r offered f x feeds is =
    let few = not_too_much (is_family r.family) (leb r.count (holds r.family)) r _ x (ap (λ (a : Fed). a.answer) (sym feeds.answers) ∙ is) in
    omega (arith, leb-true r.count (holds r.family) few, longest_fits r.family)

pub slice_bounds-rest-count : goal.slice_bounds-rest-count
slice_bounds-rest-count g c =
    omega (arith, (goes_on _ _ _ _ c.feed_lent.ensures (is_ready _ _ c.in-Some.ensures)).within, ap length c.next_piece-piece.ensures, length-take {A = ℕ})

pub slice_bounds-rest-start : goal.slice_bounds-rest-start
slice_bounds-rest-start g c =
    omega (arith, (goes_on _ _ _ _ c.feed_lent.ensures (is_ready _ _ c.in-Some.ensures)).within, ap length c.next_piece-piece.ensures, length-take {A = ℕ})

pub loop-r-smaller-in-Some : goal.loop-r-smaller-in-Some
loop-r-smaller-in-Some g c =
    let is = is_ready _ _ c.in-Some.ensures in
    let on = goes_on _ _ _ _ c.feed_lent.ensures is in
    let few = few_held _ _ _ _ c.feed_lent.ensures is in
    omega (arith, on.within, on.fewer, few, ap length c.next_piece-piece.ensures, length-take {A = ℕ}, length-drop {A = ℕ})

pub loop-r-init : goal.loop-r-init
loop-r-init g c = here

pub loop-r-preserved-in-Some : goal.loop-r-preserved-in-Some
loop-r-preserved-in-Some g c =
    let rest = c.loop-r.rest.now in
    let r = c.in-Some.r in
    let comes = framed _ _ _ _ (at_first rest) c.next_piece-piece.result.now _ c.loop-r.invariant refl (omega arith) c.next_piece-piece.ensures c.feed_lent.ensures r c.in-Some.ensures in
    subst (λ (left : List ℕ). Comes c.args.reader.now (at_first c.args.stream.now) c.feed_lent.new.reader (at_first left)) (sym (behind r.taken rest)) comes

pub loop-r-preserved : goal.loop-r-preserved
loop-r-preserved g c =
    let rest = c.loop-r.rest.now in
    let piece = c.next_piece-piece.result.now in
    let comes = frameless _ _ _ _ (at_first rest) piece _ c.loop-r.invariant refl (omega arith) c.next_piece-piece.ensures c.feed_lent.ensures c.in-None.ensures in
    let on = subst (λ (d : Course). Comes c.args.reader.now (at_first c.args.stream.now) c.feed_lent.new.reader d) (piece_after rest (sym c.if-is_empty.false ∙ c.is_empty.ensures)) comes in
    subst
    (λ (left : List ℕ). Comes c.args.reader.now (at_first c.args.stream.now) c.feed_lent.new.reader (at_first left))
    (sym (behind (length piece) rest ∙ piece_behind piece rest c.next_piece-piece.ensures))
    on

pub returns-in-None : goal.returns-in-None
returns-in-None g c =
    let rest = c.loop-r.rest.now in
    let comes = frameless _ _ _ _ (at_first rest) c.next_piece-piece.result.now _ c.loop-r.invariant refl (omega arith) c.next_piece-piece.ensures c.feed_lent.ensures c.in-None.ensures in
    subst (λ (d : Course). Comes c.args.reader.now (at_first c.args.stream.now) c.feed_lent.new.reader d) (none_after rest (sym c.if-is_empty.true ∙ c.is_empty.ensures)) comes
