use Rattle.mount_laws.proofs.Firm.{are_whole, firm_touched}
use Rattle.mount_laws.proofs.Seen.{saw_still, read_adopted, settled_listed}
use Rattle.mount_laws.proofs.states.every_state_keeps_sights.Goals as goal

pub returns : goal.returns
returns c = λ first m reached. record { saw = saw_still first m reached; adopted = read_adopted first m reached; rested = settled_listed first m reached; whole = are_whole first m reached; firm = firm_touched first m reached }
