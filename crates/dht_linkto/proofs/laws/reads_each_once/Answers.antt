use Rattle.dht_linkto.proofs.Orders.{each_once}
use Rattle.dht_linkto.proofs.laws.reads_each_once.Goals as goal

pub returns : goal.returns
returns c = each_once
