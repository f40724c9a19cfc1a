use Rattle.dht_laws.proofs.TracesOfFops.{fops_add}
use Rattle.dht_laws.proofs.laws.fops_add_on_sets.Goals as goal

pub returns : goal.returns
returns c = fops_add
