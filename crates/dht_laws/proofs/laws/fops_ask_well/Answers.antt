use Rattle.dht_fops.proofs.AskFops.{asks_well}
use Rattle.dht_laws.proofs.laws.fops_ask_well.Goals as goal

pub returns : goal.returns
returns c = asks_well
