use Rattle.afr_machine.proofs.Adopted.{adopted_moves}
use Rattle.afr_machine.proofs.laws.adopted_moves.Goals as goal

pub returns : goal.returns
returns c = adopted_moves
