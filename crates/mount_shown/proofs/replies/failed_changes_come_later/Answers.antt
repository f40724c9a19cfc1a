use Rattle.mount_shown.proofs.Growing.{history_goes, every_failed_later}
use Rattle.mount_shown.proofs.replies.failed_changes_come_later.Goals as goal

pub returns-clause-goes_on : goal.returns-clause-goes_on
returns-clause-goes_on c = history_goes

pub returns-clause-later : goal.returns-clause-later
returns-clause-later c = every_failed_later
