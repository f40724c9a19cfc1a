use Rattle.std.proofs.Common.{subst}
use Rattle.std.specs.Prelude.{ℕ, List}
use Rattle.read_audit.specs.Errors.{IsWithoutAttr}
use Rattle.read_audit.proofs.grounds.is_no_data.Goals as goal

pub returns : goal.returns
returns c = λ yes.
    (c.is_whole.ensures c.if-not-is_whole.false, subst (λ (n : List ℕ). IsWithoutAttr c.args.run.now.script.now c.args.run.now.plans.now c.args.run.now.log.now c.args.run.now.bricks.now c.args.by.call c.args.by.number c.args.object n) c.attr_of-name.ensures (c.in_ok-yes.ensures yes))
