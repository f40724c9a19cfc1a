use Rattle.std.proofs.Common.{sym, ap, ◌∙◌, arith}
use Rattle.std.specs.Prelude.{slice_get}
use Rattle.world_bricks.specs.Choices.{act_of}
use Rattle.world_bricks.proofs.Chosen.{task, none, last}
use Rattle.world_bricks.proofs.enabled.Enabled.nth.Goals as goal

pub returns-then-left-tasks : goal.returns-then-left-tasks
returns-then-left-tasks c = task c.args.self.now c.len-submits.result c.len-arriving.result c.len-serving.result c.args.at c.len-submits.ensures.value c.len-arriving.ensures.value c.len-serving.ensures.value c.if-left-submits.false c.if-left-arriving.false c.if-left-serving.false c.if-left-tasks.true

pub returns-then-left-tasks-2 : goal.returns-then-left-tasks-2
returns-then-left-tasks-2 c = none c.args.self.now c.len-submits.result c.len-arriving.result c.len-serving.result c.args.at c.len-submits.ensures.value c.len-arriving.ensures.value c.len-serving.ensures.value c.if-left-submits.false c.if-left-arriving.false c.if-left-serving.false c.if-left-tasks-2.true

pub returns-in_err-self : goal.returns-in_err-self
returns-in_err-self c =
    c.from_residual-in_err-self.ensures ∙ sym (ap (λ o. slice_get (act_of o) 0) c.in_err-self.was)
    ∙ last c.args.self.now c.len-submits.result c.len-arriving.result c.len-serving.result c.args.at c.len-submits.ensures.value c.len-arriving.ensures.value c.len-serving.ensures.value c.if-left-submits.false c.if-left-arriving.false c.if-left-serving.false (omega (arith, c.if-left-tasks.false, c.if-left-tasks-2.false))

pub returns : goal.returns
returns c =
    sym (ap (λ o. slice_get (act_of o) 0) c.in_ok-self.was)
    ∙ last c.args.self.now c.len-submits.result c.len-arriving.result c.len-serving.result c.args.at c.len-submits.ensures.value c.len-arriving.ensures.value c.len-serving.ensures.value c.if-left-submits.false c.if-left-arriving.false c.if-left-serving.false (omega (arith, c.if-left-tasks.false, c.if-left-tasks-2.false))
