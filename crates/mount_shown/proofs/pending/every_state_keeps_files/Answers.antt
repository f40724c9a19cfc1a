use Rattle.mount_shown.proofs.Every.{every_files}
use Rattle.mount_shown.proofs.pending.every_state_keeps_files.Goals as goal

pub returns : goal.returns
returns c = every_files
