use Rattle.mount_shown.proofs.Stepping.{steps_ops}
use Rattle.mount_shown.proofs.bridge.steps_are_ops.Goals as goal

pub returns : goal.returns
returns c = steps_ops
