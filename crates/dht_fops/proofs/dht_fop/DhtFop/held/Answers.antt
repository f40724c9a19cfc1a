-- The fop goes on with what it waited with.
use Rattle.std.proofs.Common.{◌∙◌, ap}
use Rattle.dht_fops.specs.code.Waits.{goes_held}
use Rattle.dht_fops.specs.declared.state.State.{State}
use Rattle.dht_fops.proofs.dht_fop.DhtFop.held.Goals as goal

pub returns-clause-course : goal.returns-clause-course
returns-clause-course c = c.in_ok-next.ensures.course ∙ c.in_ok-step.ensures ∙ ap (λ (s : State). goes_held c.args.self.now.volume s) c.replace-state.ensures.value
