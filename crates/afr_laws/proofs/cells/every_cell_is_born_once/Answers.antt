use Rattle.afr_laws.proofs.Births.Steps.{every_cell_is_born_once}
use Rattle.afr_laws.proofs.cells.every_cell_is_born_once.Goals as goal

pub returns : goal.returns
returns c = every_cell_is_born_once
