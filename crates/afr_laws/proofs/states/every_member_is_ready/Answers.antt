use Rattle.afr_laws.proofs.Ready.Steps.{members_are_ready}
use Rattle.afr_laws.proofs.states.every_member_is_ready.Goals as goal

pub returns : goal.returns
returns c = members_are_ready
