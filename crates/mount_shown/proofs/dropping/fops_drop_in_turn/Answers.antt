use Rattle.mount_shown.proofs.Courses.{fops_drop_in_turn}
use Rattle.mount_shown.proofs.dropping.fops_drop_in_turn.Goals as goal

pub returns : goal.returns
returns c = fops_drop_in_turn
