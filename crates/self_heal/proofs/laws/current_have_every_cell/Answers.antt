use Rattle.self_heal.proofs.Backing.{current_have_every_cell}
use Rattle.self_heal.proofs.laws.current_have_every_cell.Goals as goal

pub returns : goal.returns
returns c = current_have_every_cell
