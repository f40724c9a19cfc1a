use Rattle.world_bricks.proofs.Feeding.{worlds_are_fed}
use Rattle.world_bricks.proofs.laws.bricks_are_fed.Goals as goal

pub returns : goal.returns
returns c = worlds_are_fed
