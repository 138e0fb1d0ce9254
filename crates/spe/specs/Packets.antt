-- The code of a packet, where the bytes are one.
use Rattle.std.specs.Prelude.{ℕ, List, Option, get_or}
use Rattle.std.specs.Bool.{then_some}
use Rattle.rules.specs.Codes.{is_ack, is_command}

-- an acknowledgement, and a command
unfoldable pub ack_in : List ℕ → Option ℕ
ack_in bs = then_some (is_ack bs) (get_or bs 4 0)

unfoldable pub command_in : List ℕ → Option ℕ
command_in bs = then_some (is_command bs) (get_or bs 4 0)
