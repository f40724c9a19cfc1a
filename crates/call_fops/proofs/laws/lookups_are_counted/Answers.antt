use Rattle.call_fops.proofs.Counted.{lookups_are_counted}
use Rattle.call_fops.proofs.laws.lookups_are_counted.Goals as goal

pub returns : goal.returns
returns c = lookups_are_counted
