use Rattle.std.proofs.Common.{subst}
use Rattle.std.specs.Prelude.{List, Option, IfSome}
use Rattle.fop_types.specs.declared.contents.Item.{Item}
use Rattle.read_audit.proofs.Listing.{listed}
use Rattle.read_audit.specs.Naming.{HaveFirst}
use Rattle.read_audit.proofs.directories.is_listed.Goals as goal

pub returns : goal.returns
returns c = λ yes.
    let have : HaveFirst c.args.run.now.script.now c.args.run.now.plans.now c.args.run.now.log.now c.args.run.now.bricks.now c.args.by.call c.args.by.number c.args.dir c.in-Some-sets_of.sets c.in-Some-names.lists =
    subst (λ (f : Option (List (List Item))). IfSome f (λ x. HaveFirst c.args.run.now.script.now c.args.run.now.plans.now c.args.run.now.log.now c.args.run.now.bricks.now c.args.by.call c.args.by.number c.args.dir c.in-Some-sets_of.sets x)) c.in-Some-names.is c.in_ok-names.ensures in
    listed c.args.run.now.script.now c.args.run.now.log.now c.args.run.now.graphs.now c.args.run.now.graphs_are c.args.run.now.plans.now c.args.run.now.bricks.now c.args.by.call c.args.by.graph c.args.by.number c.args.dir c.in-Some.plan.now c.in-Some-sets_of.sets
    c.in-Some-names.lists c.as_slice.result.now c.args.shown.now c.requires c.in-Some.ensures.found c.in-Some-sets_of.ensures have c.as_slice.ensures (c.are_union.ensures.all yes) (c.are_union.ensures.only yes) (c.are_union.ensures.rising yes)
