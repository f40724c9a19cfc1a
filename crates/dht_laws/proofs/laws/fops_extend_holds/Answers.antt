use Rattle.dht_laws.proofs.HomesOfFops.{fops_extend}
use Rattle.dht_laws.proofs.laws.fops_extend_holds.Goals as goal

pub returns : goal.returns
returns c = fops_extend
