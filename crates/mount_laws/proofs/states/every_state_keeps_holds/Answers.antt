use Rattle.mount_laws.proofs.Apart.{holds_apart}
use Rattle.mount_laws.proofs.Held.{jobs_asked, holds_own, holds_cover}
use Rattle.mount_laws.proofs.states.every_state_keeps_holds.Goals as goal

pub returns : goal.returns
returns c = λ first m reached. record { apart = holds_apart first m reached; own = holds_own first m reached; asked = jobs_asked first m reached; covers = holds_cover first m reached }
