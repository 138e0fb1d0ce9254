-- `held_bytes::feeding::close` meets its contract: a reader that no call serves is refused, and of another the held bytes stay.
-- Assumes nothing.
use Prim.Native.Nat.{ℕ}
use Rattle.std.specs.Prelude.{Ok}
use Rattle.std.proofs.lemmas.Result.{err_from_is_err_and}
use mathlib.Core.Path.{◌≡◌, sym, ap, ◌∙◌}
use native.Mathlib.Omega.{arith}
use lib.ListN.{length, take}
use Rattle.stream_rules.specs.Streams.{filled, held_of}
use Rattle.stream_laws.proofs.States.{shut_call}
use Rattle.stream_laws.proofs.Saying.{shuts}
use Rattle.held_bytes.proofs.Closing.{held_long}
use Rattle.held_bytes.proofs.Serving.{is_served, refused_shut}
use Rattle.held_bytes.proofs.feeding.close.Goals as goal

pub returns-in_err-served : goal.returns-in_err-served
returns-in_err-served c =
    let p = err_from_is_err_and c.from_residual.result c.from_residual.ensures.1 in
    rw (p.1, p.2) (shuts (sym (refused_shut c.args.reader.now _ (sym c.served.ensures ∙ c.in_err-served.was))))

pub returns : goal.returns
returns c =
    let r = c.args.reader.now in
    let serves = is_served r (sym c.served.ensures ∙ c.in_ok-served.was) in
    let size : length (held_of r) ≡ r.count = held_long r serves.1 (omega arith) in
    let stays : c.keep_part.new.places ≡ filled (held_of r) = c.keep_part.ensures ∙ ap (λ (n : ℕ). filled (take n r.held)) c.from-used.ensures in
    shuts ((λ i. record {
      reader = record {
        family = r.family;
        closed = 1;
        count = sym size i;
        held = stays i;
        at = r.at;
        skipped = r.skipped;
      };
      outcome = Ok tt;
    })
    ∙ sym (shut_call r serves.0 (omega (arith, serves.1))))
