use Rattle.mount_laws.proofs.Beyond.{beyond_old, in_its_graph}
use Rattle.mount_laws.proofs.states.every_state_keeps_graphs.Goals as goal

pub returns : goal.returns
returns c = λ first m reached. record { in_its_graph = in_its_graph first m reached; beyond = beyond_old first m reached }
