use Rattle.call_fops.proofs.Lawful.{walks_are_lawful}
use Rattle.call_fops.proofs.laws.walks_are_lawful.Goals as goal

pub returns : goal.returns
returns c = walks_are_lawful
