-- `spe::read_command` meets its contract: a command, or nothing.
-- Assumes nothing.
use Prim.Native.Nat.{ℕ}
use Rattle.std.specs.Prelude.{Ok, Err}
use Rattle.std.specs.Option.{ok_or}
use Rattle.std.proofs.lemmas.Result.{err_from_is_err_and}
use mathlib.Core.Path.{◌≡◌, sym, ap, ◌∙◌}
use mathlib.Core.List.{List}
use Rattle.rules.specs.Answers.{read_one, read_family3}
use Rattle.rules.specs.declared.Frame.TheVariants.{Command}
use Rattle.rules.specs.declared.Refusal.{Refusal}
use Rattle.rules.specs.declared.Refusal.TheVariants.{NotGood}
use Rattle.frame_laws.proofs.Saying.{reads}
use Rattle.spe.specs.Packets.{command_in}
use Rattle.spe.proofs.Found.{taken, refused}
use Rattle.spe.proofs.read_command.Goals as goal

module _ (s : List ℕ) where
  a_command : (code : ℕ) → ok_or (command_in s) NotGood ≡ Ok code → Ok (Command code) ≡ read_one 3 s
  unfolding read_one read_family3 command_in
  a_command code e = let f = taken _ _ _ _ e in rw (f.0, f.1)

  no_command : (d : Refusal) → ok_or (command_in s) NotGood ≡ Err d → Err d ≡ read_one 3 s
  unfolding read_one read_family3 command_in
  no_command d e = let f = refused _ _ _ _ e in rw (f.0, f.1)

pub returns-in_err-code : goal.returns-in_err-code
returns-in_err-code c =
    let p = err_from_is_err_and c.from_residual.result c.from_residual.ensures.1 in
    reads (p.1 ∙ ap Err p.2 ∙ no_command _ _ (ap (λ o. ok_or o NotGood) (sym c.command_in.ensures) ∙ sym c.ok_or.ensures.value ∙ c.in_err-code.was))

pub returns : goal.returns
returns c =
    reads (a_command _ _ (ap (λ o. ok_or o NotGood) (sym c.command_in.ensures) ∙ sym c.ok_or.ensures.value ∙ c.in_ok-code.was))
