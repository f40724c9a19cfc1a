use Rattle.dht_laws.proofs.CostsOfFops.{asks_few}
use Rattle.dht_laws.proofs.laws.fops_ask_few.Goals as goal

pub returns : goal.returns
returns c = asks_few
