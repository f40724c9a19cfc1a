use Rattle.dht_linkto.proofs.Runs.{finds_first}
use Rattle.dht_linkto.proofs.laws.finds_the_first.Goals as goal

pub returns : goal.returns
returns c = finds_first
