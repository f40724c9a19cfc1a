use Rattle.history_replay.proofs.Adding.{begins}
use Rattle.history_replay.proofs.progress.Progress.new.Goals as goal

pub returns : goal.returns
returns c = begins c.in_ok-no_fds.field-0.items c.in_ok-filled.field-0.items c.new.result c.in_ok-no_fds.ensures c.in_ok-filled.ensures c.new.ensures
