use Rattle.cell_store.proofs.Copies.{ops_law}
use Rattle.cell_store.proofs.laws.ops_change_copies.Goals as goal

pub returns : goal.returns
returns c = ops_law
