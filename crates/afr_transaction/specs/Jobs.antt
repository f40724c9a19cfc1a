-- What the jobs of a set do with its replicas, and the ops that they carry.
use Rattle.std.specs.Prelude.{ℕ, Option, Some, None}
use Rattle.fop_types.specs.declared.jobs.Job.{Job}
use Rattle.fop_types.specs.declared.jobs.Job.TheVariants as job
use Rattle.fop_types.specs.declared.store_ops.StoreOp.{StoreOp}
use Rattle.afr_transaction.specs.declared.jobs.Kind.{Kind}
use Rattle.afr_transaction.specs.declared.jobs.Kind.TheVariants as kind

abbrev pub kind_of : Job → Kind
kind_of (job.Read cells fd dir) = kind.Read
kind_of (job.Change cells fd op effect) = kind.Change
kind_of (job.Birth cells op) = kind.Birth
kind_of (job.Open fd gfid) = kind.Open fd gfid
kind_of job.Index = kind.Index
kind_of (job.Heal cell) = kind.Heal

abbrev pub birth_op : Job → Option StoreOp
birth_op (job.Read cells fd dir) = None
birth_op (job.Change cells fd op effect) = None
birth_op (job.Birth cells op) = Some op
birth_op (job.Open fd gfid) = None
birth_op job.Index = None
birth_op (job.Heal cell) = None

abbrev pub change_op : Job → Option (ℕ × StoreOp)
change_op (job.Read cells fd dir) = None
change_op (job.Change cells fd op effect) = Some (fd, op)
change_op (job.Birth cells op) = None
change_op (job.Open fd gfid) = None
change_op job.Index = None
change_op (job.Heal cell) = None
