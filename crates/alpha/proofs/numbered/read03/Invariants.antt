-- `alpha::numbered::read03` meets its contract: its row is of decimal numbers. Assumes nothing.
use Rattle.alpha.specs.Fields.{decimal_in}
use Rattle.alpha.proofs.numbered.read03.Given as goal

abbrev pub ghost-row : goal.ghost-row
ghost-row a = decimal_in
