-- The fop goes on with what it waited with.
use Rattle.std.proofs.Common.{◌∙◌, ap}
use Rattle.dht_fops.specs.code.Waits.{goes_on}
use Rattle.dht_fops.specs.declared.state.State.{State}
use Rattle.dht_fops.proofs.dht_fop.DhtFop.answer.Goals as goal

pub returns-clause-course : goal.returns-clause-course
returns-clause-course c = c.in_ok-next.ensures.course ∙ c.in_ok-step.ensures.course ∙ ap (λ (s : State). goes_on c.args.self.now.volume s c.args.reply) c.replace-state.ensures.value
