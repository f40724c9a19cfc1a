use Rattle.dht_linkto.proofs.Knowing.{keeps}
use Rattle.dht_linkto.proofs.laws.keeps_knowing.Goals as goal

pub returns : goal.returns
returns c = keeps
