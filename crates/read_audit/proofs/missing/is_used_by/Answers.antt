use Rattle.std.proofs.Common.{◌≡◌}
use Rattle.std.specs.Prelude.{Bool, true, List}
use Rattle.fop_types.specs.Names.{has_real_name}
use Rattle.fop_types.specs.declared.contents.Item.{Item}
use Rattle.read_audit.proofs.Absent.{showing}
use Rattle.read_audit.proofs.missing.is_used_by.Goals as goal

pub returns : goal.returns
returns c = λ yes. showing c.args.run.now.script.now c.args.run.now.plans.now c.args.run.now.log.now c.args.run.now.bricks.now c.args.by.call c.args.by.number c.args.dir (λ (removed : Bool) (items : List Item). has_real_name items ≡ true) c.in_ok-read.read c.in-Some.content c.in-Some.is c.in_ok-read.ensures (c.is_of_some.ensures yes)
