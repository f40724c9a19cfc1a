use Rattle.txn_machine.proofs.Witness.{posts_are_met}
use Rattle.txn_machine.proofs.laws.posts_are_met.Goals as goal

pub returns : goal.returns
returns c = posts_are_met
