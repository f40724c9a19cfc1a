use Rattle.afr_laws.proofs.Fresh.Steps.{every_cell_is_fresh}
use Rattle.afr_laws.proofs.cells.every_cell_is_fresh.Goals as goal

pub returns : goal.returns
returns c = every_cell_is_fresh
