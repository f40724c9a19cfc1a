use Rattle.std.proofs.Common.{subst}
use Rattle.std.specs.Prelude.{List, [], ◌∷◌, Option, IfSome}
use Rattle.fop_types.specs.declared.contents.Row.{Row}
use Rattle.read_audit.proofs.NoCopies.{without_is}
use Rattle.read_audit.specs.Fetching.{IsGrantIn}
use Rattle.read_audit.proofs.lacking.is_without.Goals as goal

pub returns : goal.returns
returns c = λ yes.
    let grant : IsGrantIn c.args.log.now c.args.bricks.now c.args.call c.args.graph (c.args.cell.now ∷ []) c.args.grant.event c.args.brick c.in-Some.rows =
    subst (λ (f : Option (List Row)). IfSome f (λ rs. IsGrantIn c.args.log.now c.args.bricks.now c.args.call c.args.graph (c.args.cell.now ∷ []) c.args.grant.event c.args.brick rs)) c.in-Some.is c.in_ok-rows.ensures in
    without_is c.args.log.now c.args.bricks.now c.args.plan.now c.args.call c.args.graph c.args.cell.now c.args.number c.args.brick c.args.grant.event c.in-Some.rows c.if-grant-number.false
    (c.has_member.ensures.0 c.if-not-has_member.false) grant (c.is_absent-yes.ensures yes)
