use Rattle.mount_laws.proofs.Bearing.{CourseLaws}
use Rattle.mount_laws.proofs.Learning.{layout_stands}
use Rattle.mount_laws.proofs.states.every_state_keeps_layouts.Goals as goal

pub returns : goal.returns
returns c =
    let laws : CourseLaws = record { bear_first = c.fops_bear_first.ensures.names; bear_once = c.fops_bear_first.ensures.once; links = c.fops_change_links.ensures; answers = c.fops_answer_changes.ensures.fops } in
    λ first m reached. layout_stands laws first m reached
