-- The number of an outcome: 0 where it is no refusal, and else another.
-- Assumes nothing.
use mathlib.Core.Path.{◌≡◌, refl}
use mathlib.Core.Bool.{true, false}
use native.Mathlib.Omega.{arith}
use Rattle.std.specs.Prelude.{Result, Ok, Err}
use Rattle.std.specs.Result.{is_err}
use Rattle.rules.specs.Refusals.{number_for}
use Rattle.rules.specs.declared.Refusal.{Refusal}
use Rattle.rules.specs.declared.Refusal.TheVariants.{NoFamily, NoCode, NoRecord, NoRoom, IsClosed, HoldsTooMuch, TooLong, NotGood}
use Rattle.rows.specs.Rows.{outcome_number}

some_number : (e : Refusal) → number_for e ≡ 0 → ⊥
some_number NoFamily z = omega arith
some_number NoCode z = omega arith
some_number NoRecord z = omega arith
some_number NoRoom z = omega arith
some_number IsClosed z = omega arith
some_number HoldsTooMuch z = omega arith
some_number TooLong z = omega arith
some_number NotGood z = omega arith

pub zero_ok : (o : Result Unit Refusal) → is_err o ≡ false → outcome_number o ≡ 0
zero_ok (Ok u) e = refl
zero_ok (Err n) e = cc

pub some_refused : (o : Result Unit Refusal) → is_err o ≡ true → outcome_number o ≡ 0 → ⊥
some_refused (Ok u) e zero = cc
some_refused (Err n) e zero = some_number n zero
