use Rattle.mount_laws.proofs.Drawing.{drawn_apart}
use Rattle.mount_laws.proofs.Making.{made_by_change, names_made, handed_made, objects_made}
use Rattle.mount_laws.proofs.states.every_state_keeps_objects.Goals as goal

pub returns : goal.returns
returns c = λ first m reached. record { drawn = drawn_apart first m reached; made = made_by_change first m reached; names = names_made first m reached; handed = handed_made first m reached; objects = objects_made first m reached }
