use Rattle.dht_laws.proofs.TracesOfFops.{fops_change_links}
use Rattle.dht_laws.proofs.laws.fops_change_links.Goals as goal

pub returns : goal.returns
returns c = fops_change_links
