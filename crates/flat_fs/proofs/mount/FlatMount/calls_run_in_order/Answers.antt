use Rattle.flat_fs.proofs.Called.{in_order}
use Rattle.flat_fs.proofs.mount.FlatMount.calls_run_in_order.Goals as goal

pub returns : goal.returns
returns c = in_order
