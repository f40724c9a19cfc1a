use Rattle.mount_laws.proofs.Bearing.{CourseLaws, one_birth, unconfirmed_born, copies}
use Rattle.mount_laws.proofs.Free.{drawn_free}
use Rattle.mount_laws.proofs.states.every_state_keeps_births.Goals as goal

pub returns : goal.returns
returns c =
    let laws : CourseLaws = record { bear_first = c.fops_bear_first.ensures.names; bear_once = c.fops_bear_first.ensures.once; links = c.fops_change_links.ensures; answers = c.fops_answer_changes.ensures.fops } in
    λ first m reached. record { drawn = drawn_free laws.bear_first laws.links first m reached; once = one_birth laws first m reached; unconfirmed = unconfirmed_born laws first m reached; copies = copies laws first m reached }
