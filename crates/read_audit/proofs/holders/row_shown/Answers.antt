use Rattle.std.proofs.Common.{subst, sym}
use Rattle.std.specs.Prelude.{List, Option, IfSome}
use Rattle.fop_types.specs.declared.contents.Row.{Row}
use Rattle.read_audit.proofs.Fetching.{holder_is}
use Rattle.read_audit.specs.Fetching.{IsGrantIn}
use Rattle.read_audit.proofs.holders.row_shown.Goals as goal

pub returns : goal.returns
returns c =
    let grant : IsGrantIn c.args.log.now c.args.bricks.now c.args.call c.args.graph c.args.cells.now c.args.grant.event c.args.brick c.in-Some.rows =
    subst (λ (f : Option (List Row)). IfSome f (λ rs. IsGrantIn c.args.log.now c.args.bricks.now c.args.call c.args.graph c.args.cells.now c.args.grant.event c.args.brick rs)) c.in-Some.is c.in_ok-rows.ensures in
    holder_is c.args.log.now c.args.bricks.now c.args.plan.now c.args.call c.args.graph c.args.cells.now c.args.cell c.args.place c.args.until c.args.grant.event c.args.brick c.in-Some.rows c.in-Some-row_at.row
    c.if-grant-until.false (c.has_member.ensures.0 c.if-not-has_member.false) grant (rw c.as_slice.ensures at (sym c.in-Some-row_at.ensures))
