use Rattle.dht_laws.proofs.TracesOfFops.{fops_place}
use Rattle.dht_laws.proofs.laws.fops_place_answers.Goals as goal

pub returns : goal.returns
returns c = fops_place
