use Rattle.dht_laws.proofs.HomesOfFops.{fops_bear}
use Rattle.dht_laws.proofs.Unheeded.{bear_once}
use Rattle.dht_laws.proofs.laws.fops_bear_first.Goals as goal

pub returns-clause-names : goal.returns-clause-names
returns-clause-names c = fops_bear

pub returns-clause-once : goal.returns-clause-once
returns-clause-once c = bear_once
