-- `held_bytes::feeding::feed` meets its contract: its tests are the refusals, in their order; behind them an advance is the
-- call, and a drain the look at close.
-- Assumes nothing.
use Rattle.std.proofs.Common.{ℕ, ◌==◌, ◌≡◌, true, false, [], length, arith, sym, ap, ◌∙◌}
use Rattle.std.proofs.lemmas.Bool.Decides.{nat_tests}
use Rattle.std.proofs.lemmas.Result.{err_from_is_err_and}
use lib.ListN.{drop_of_length-le}
use Rattle.stream_rules.specs.Streams.{fed}
use Rattle.stream_laws.proofs.States.{refused_5, open-call, closed-call}
use Rattle.stream_laws.proofs.Saying.{feeds}
use Rattle.held_bytes.proofs.Serving.{is_served, refused_feed}
use Rattle.held_bytes.proofs.feeding.feed.Goals as goal

some : (n : ℕ) → (n == 0) ≡ false → n ≡ 0 → ⊥
some n e = grind (arith, nat_tests)

none_there : (n : ℕ) → (n == 0) ≡ true → n ≡ 0
none_there n e = grind (arith, nat_tests)

pub returns-in_err-served : goal.returns-in_err-served
returns-in_err-served c =
    let p = err_from_is_err_and c.from_residual.result c.from_residual.ensures.1 in
    rw (p.1, p.2) (feeds (sym (refused_feed c.args.reader.now _ (sym c.served.ensures ∙ c.in_err-served.was) c.args.offered.now)))

pub returns-then-reader-eq0 : goal.returns-then-reader-eq0
returns-then-reader-eq0 c =
    let r = c.args.reader.now in
    let serves = is_served r (sym c.served.ensures ∙ c.in_ok-served.was) in
    feeds (c.advance.ensures
    ∙ sym (open-call r c.args.offered.now serves.0 (omega (arith, serves.1)) c.if-reader-eq0.true))

pub returns-then-not-is_empty : goal.returns-then-not-is_empty
returns-then-not-is_empty c =
    let r = c.args.reader.now in
    let serves = is_served r (sym c.served.ensures ∙ c.in_ok-served.was) in
    feeds (sym (refused_5 r c.args.offered.now serves.0 (omega (arith, serves.1)) c.if-reader-eq0.false
    (λ none. some (length c.args.offered.now) (sym c.if-not-is_empty.ensures) none)))

pub returns : goal.returns
returns c =
    let r = c.args.reader.now in
    let serves = is_served r (sym c.served.ensures ∙ c.in_ok-served.was) in
    let none : c.args.offered.now ≡ [] = drop_of_length-le c.args.offered.now {i = 0} (omega (arith, none_there (length c.args.offered.now) (sym c.if-not-is_empty.ensures))) in
    feeds (c.drain.ensures
    ∙ sym (closed-call r serves.0 (omega (arith, serves.1)) c.if-reader-eq0.false)
    ∙ ap (fed r) (sym none))
