-- `lister::steps::says_good` meets its contract: a message is good by its body, a sentence as a whole.
-- Assumes nothing.
use Prim.Native.Nat.{ℕ}
use mathlib.Core.Path.{sym, ap, subst, ◌∙◌}
use mathlib.Core.Bool.{◌&&◌}
use mathlib.Core.List.{List}
use native.Mathlib.Omega.{arith}
use lib.ListN.{take}
use Rattle.rules.specs.Bytes.{first}
use Rattle.rules.specs.Messages.{is_letter}
use Rattle.rules.specs.Answers.{is_good, read_body, read_one}
use Rattle.stream_rules.specs.Heads.{brackets_of, around}
use Rattle.stream_laws.proofs.Bracketed.{small}
use Rattle.frames.proofs.Families.{family2}
use Rattle.lister.specs.GoodLengths.{Enclosed}
use Rattle.lister.proofs.Bodies.{body_tells}
use Rattle.lister.proofs.Families.{sentences_else}
use Rattle.lister.proofs.steps.says_good.Goals as goal

pub returns-then-family-eq-MESSAGES : goal.returns-then-family-eq-MESSAGES
returns-then-family-eq-MESSAGES c =
    let bytes : List ℕ = c.args.s.now in
    let four = c.if-family-eq-MESSAGES.true in
    let e = subst (λ (f : ℕ). Enclosed f c.args.n bytes) four c.requires.1 in
    c.is_good_body.ensures
    ∙ ap (λ (l : List ℕ). is_letter (first l) && is_good (read_body l)) c.text.ensures.content
    ∙ body_tells bytes c.args.n e
    ∙ ap (λ (f : ℕ). is_good (read_one f (take (around (brackets_of f) c.args.n) bytes))) (sym four)

pub overflow_add-n : goal.overflow_add-n
overflow_add-n c = omega (arith, c.requires.1.fits, (small c.args.family).0)

pub returns : goal.returns
returns c =
    let two = sentences_else _ c.requires.0 c.if-family-eq-MESSAGES.false in
    c.is_sentence.ensures
    ∙ ap is_good (family2 _)
    ∙ ap (λ (l : List ℕ). is_good (read_one 2 l)) c.text-2.ensures.content
    ∙ ap (λ (f : ℕ). is_good (read_one f (take (around (brackets_of f) c.args.n) c.args.s.now))) (sym two)
