use Rattle.mount_shown.proofs.Chances.{every_possible}
use Rattle.mount_shown.proofs.Legal.{every_legal}
use Rattle.mount_shown.proofs.replies.every_history_is_legal.Goals as goal

pub returns-clause-legal : goal.returns-clause-legal
returns-clause-legal c = every_legal

pub returns-clause-possible : goal.returns-clause-possible
returns-clause-possible c = every_possible
