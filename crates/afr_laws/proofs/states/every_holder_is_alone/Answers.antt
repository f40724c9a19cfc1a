use Rattle.afr_laws.proofs.Alone.Holder.{holders_alone}
use Rattle.afr_laws.proofs.states.every_holder_is_alone.Goals as goal

pub returns : goal.returns
returns c = holders_alone
