use Rattle.dht_linkto.proofs.Knowing.{begins}
use Rattle.dht_linkto.proofs.laws.begins_knowing.Goals as goal

pub returns : goal.returns
returns c = begins
