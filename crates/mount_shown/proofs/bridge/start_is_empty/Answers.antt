use Rattle.mount_shown.proofs.Starting.{start_empty}
use Rattle.mount_shown.proofs.bridge.start_is_empty.Goals as goal

pub returns : goal.returns
returns c = start_empty
