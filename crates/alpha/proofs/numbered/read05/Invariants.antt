-- `alpha::numbered::read05` meets its contract: its row is of bytes. Assumes nothing.
use Rattle.alpha.specs.Fields.{hex_in}
use Rattle.alpha.proofs.numbered.read05.Given as goal

abbrev pub ghost-row : goal.ghost-row
ghost-row a = λ w t. hex_in t
