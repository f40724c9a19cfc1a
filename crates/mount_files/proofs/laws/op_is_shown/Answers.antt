use Rattle.mount_files.proofs.Ops.{one_op}
use Rattle.mount_files.proofs.laws.op_is_shown.Goals as goal

pub returns : goal.returns
returns c = one_op
