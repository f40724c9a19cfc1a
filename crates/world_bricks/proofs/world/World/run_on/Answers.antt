use Rattle.std.proofs.Common.{sym, subst, ◌∙◌}
use Rattle.std.specs.Prelude.{ℕ, ◌+◌}
use Rattle.world_bricks.proofs.Chains.{next_reached}
use Rattle.world_bricks.proofs.Running.{IsUnderWay, goes_on}
use Rattle.world_bricks.proofs.world.World.run_on.Goals as goal

pub loop-preserved : goal.loop-preserved
loop-preserved c =
    let same = c.in_ok-apply.ensures.same in
    let kept = c.loop.invariant in
    let happens = c.in_ok-apply.ensures.happens c.if-not-branch.false in
    let will = sym c.pick.ensures.event ∙ c.in-Some.is in (
      same.0 ∙ kept.0,
      same.1 ∙ kept.1,
      c.in_ok-apply.ensures.goes,
      next_reached c.args.self.now.script c.loop.self.script c.in-Some.event c.args.self.now.log c.args.self.now.lines c.loop.self.log c.loop.self.lines c.apply.new.self.log c.apply.new.self.lines kept.0 happens kept.3,
      subst (λ (x : ℕ). IsUnderWay c.args.seed c.args.self.now c.apply.new.self x (c.loop.counter + 1)) (sym c.draw.ensures.state)
          (goes_on c.in-Some.event c.loop.self c.apply.new.self c.pick.ensures.none happens same (c.in_ok-apply.ensures.moves c.if-not-branch.false) c.args.seed c.args.self.now c.loop.schedule c.loop.counter c.draw.result c.draw.ensures.value will kept.4),
    )
