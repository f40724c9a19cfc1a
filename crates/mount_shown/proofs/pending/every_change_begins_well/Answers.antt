use Rattle.mount_shown.proofs.Chances.{every_fop_possible}
use Rattle.mount_shown.proofs.Every.{every_change}
use Rattle.mount_shown.proofs.pending.every_change_begins_well.Goals as goal

pub returns-clause-well : goal.returns-clause-well
returns-clause-well c = every_change

pub returns-clause-possible : goal.returns-clause-possible
returns-clause-possible c = every_fop_possible
