-- `alpha::numbered::read02` meets its contract: its row is of decimal numbers. Assumes nothing.
use Rattle.alpha.specs.Fields.{decimal_in}
use Rattle.alpha.proofs.numbered.read02.Given as goal

abbrev pub ghost-row : goal.ghost-row
ghost-row a = decimal_in
