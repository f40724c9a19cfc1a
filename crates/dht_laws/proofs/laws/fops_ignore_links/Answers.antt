use Rattle.dht_laws.proofs.Unheeded.{ignore_links}
use Rattle.dht_laws.proofs.laws.fops_ignore_links.Goals as goal

pub returns : goal.returns
returns c = ignore_links
