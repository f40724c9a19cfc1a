use Rattle.mount_laws.proofs.Answering.{answered_by_entry}
use Rattle.mount_laws.proofs.Placing.{places_fixed}
use Rattle.mount_laws.proofs.states.every_state_keeps_answers.Goals as goal

pub returns : goal.returns
returns c = λ first m reached. record { changed = answered_by_entry c.fops_answer_changes.ensures.fops first m reached; places = places_fixed c.fops_place_answers.ensures first m reached }
