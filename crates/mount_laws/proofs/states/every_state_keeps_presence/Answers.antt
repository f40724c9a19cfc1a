use Rattle.mount_laws.proofs.Presence.{firm_present}
use Rattle.mount_laws.proofs.states.every_state_keeps_presence.Goals as goal

pub returns : goal.returns
returns c = λ first m reached. firm_present first m reached
