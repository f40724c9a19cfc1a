use Rattle.mount_files.proofs.Later.{two_ops, all_ops}
use Rattle.mount_files.proofs.laws.ops_stay_possible.Goals as goal

pub returns-clause-two : goal.returns-clause-two
returns-clause-two c = two_ops

pub returns-clause-all : goal.returns-clause-all
returns-clause-all c = all_ops
