use Rattle.txn_laws.proofs.Freed.{splits_lack}
use Rattle.txn_laws.proofs.laws.splits_lack_free.Goals as goal

pub returns : goal.returns
returns c = splits_lack
