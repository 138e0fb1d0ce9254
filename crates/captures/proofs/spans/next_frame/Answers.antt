-- `captures::spans::next_frame` meets its contract: the part is that of the span which `find` gives where any frame is
-- wanted, and this is what the lister's second entry gives.
-- Assumes nothing.
use mathlib.Core.Path.{refl, ◌≡◌, sym, subst, ◌∙◌}
use mathlib.Core.Bool.{false}
use mathlib.Core.List.{List}
use Prim.Native.Nat.{ℕ}
use denote.Ref.{Bor}
use Rattle.stream_rules.specs.Lister.{NextFrame}
use Rattle.std.specs.Prelude.{Option, None}
use Rattle.captures.specs.Finds.{next_in}
use Rattle.captures.specs.declared.spans.Span.{Span}
use Rattle.frame_laws.proofs.Bytes.{part_stands}
use Rattle.captures.proofs.Standing.{spanned}
use Rattle.captures.proofs.Agrees.{next_agrees}
use Rattle.captures.proofs.Facts.{TextOf, nothing_shown}
use Rattle.captures.proofs.spans.next_frame.Goals as goal

-- the part that a span is, where the span is the next one
given : (family : ℕ) (capture : Bor (List ℕ)) (place : ℕ) (s : Option Span) (r : Bor (List ℕ)) → s ≡ next_in family capture.now place false
    → TextOf capture s r → NextFrame family capture place r
given family capture place s r is shown =
    let there = next_in family capture.now place false in
    let text : TextOf capture there r = subst (λ (x : Option Span). TextOf capture x r) is shown in
    let same = next_agrees family capture.now place in
    record {
      content = text.content ∙ sym same.0;
      stands = text.stands ∙ part_stands capture.ref_ptr _ _ ((spanned family capture.now place false).stands ∙ sym same.1);
    }

pub returns : goal.returns
returns c = given c.args.family c.args.capture c.args.place _ _ c.in-Some.ensures c.text.ensures

pub returns-in_default : goal.returns-in_default
returns-in_default c = given c.args.family c.args.capture c.args.place None _ c.in_default.ensures (nothing_shown c.args.capture _ refl refl)
