use Rattle.mount_shown.proofs.Counts.{more_sets, first_sets}
use Rattle.mount_shown.proofs.bridge.sets_may_be_more.Goals as goal

pub returns-clause-more : goal.returns-clause-more
returns-clause-more c = more_sets

pub returns-clause-first : goal.returns-clause-first
returns-clause-first c = first_sets
