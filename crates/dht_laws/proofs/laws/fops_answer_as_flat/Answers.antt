use Rattle.dht_laws.proofs.FlatFops.{answers_as_flat}
use Rattle.dht_laws.proofs.laws.fops_answer_as_flat.Goals as goal

pub returns : goal.returns
returns c = answers_as_flat
