use Rattle.dht_laws.proofs.Asking.{asks_all}
use Rattle.dht_laws.proofs.laws.fops_ask_all.Goals as goal

pub returns : goal.returns
returns c = asks_all
