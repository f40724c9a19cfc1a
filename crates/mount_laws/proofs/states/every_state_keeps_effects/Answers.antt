use Rattle.mount_laws.proofs.Entering.{effect_own, parts_in_order, entered_once, adopted_is_entered}
use Rattle.mount_laws.proofs.states.every_state_keeps_effects.Goals as goal

pub returns : goal.returns
returns c = λ first m reached. record { own = effect_own first m reached; order = parts_in_order first m reached; entered = entered_once first m reached; adopted = adopted_is_entered first m reached }
