use Rattle.mount_laws.proofs.Beside.{each_beside, running_alone}
use Rattle.mount_laws.proofs.One.{one_unsettled, settling_ends, births_apart}
use Rattle.mount_laws.proofs.Seen.{own_is_alone}
use Rattle.mount_laws.proofs.states.every_state_keeps_settled.Goals as goal

pub returns : goal.returns
returns c = λ first m reached. record { beside = each_beside first m reached; one = one_unsettled first m reached; alone = running_alone first m reached; own = own_is_alone first m reached; ends = settling_ends first m reached; births = births_apart first m reached }
