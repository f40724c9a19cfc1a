use Rattle.frame_laws.proofs.Resting.{boards_await}
use Rattle.frame_laws.proofs.laws.resting_boards_await.Goals as goal

pub returns : goal.returns
returns g c = boards_await _ _ _
