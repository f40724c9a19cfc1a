use Rattle.dht_laws.proofs.HomesOfFops.{fops_change_on}
use Rattle.dht_laws.proofs.laws.fops_change_on_sets.Goals as goal

pub returns : goal.returns
returns c = fops_change_on
