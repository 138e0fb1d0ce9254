-- `stream::readers::fresh_reader` meets its contract: its test is the refusal.
-- Assumes nothing.
use mathlib.Core.Path.{sym, ap, ◌∙◌}
use Rattle.std.specs.Prelude.{Err, Ok}
use Rattle.rules.specs.declared.Refusal.TheVariants.{NoFamily}
use Rattle.stream_rules.specs.declared.Reader.{Reader}
use Rattle.stream_rules.specs.declared.Turned.{Turned}
use Rattle.stream_laws.proofs.States.{fresh_1, fresh_call}
use Rattle.stream_laws.proofs.Saying.{makes}
use Rattle.stream.proofs.readers.fresh_reader.Goals as goal

pub returns-then-not-is_family : goal.returns-then-not-is_family
returns-then-not-is_family c =
    makes (ap {B = Turned} (λ (r : Reader). record { reader = r; outcome = Err NoFamily }) c.empty.ensures
    ∙ sym (fresh_1 _ (sym c.if-not-is_family.ensures)))

pub returns : goal.returns
returns c =
    makes (ap {B = Turned} (λ (r : Reader). record { reader = r; outcome = Ok tt }) c.empty-2.ensures
    ∙ sym (fresh_call _ (sym c.if-not-is_family.ensures)))
