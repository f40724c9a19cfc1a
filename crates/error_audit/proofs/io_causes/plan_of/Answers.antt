use Rattle.std.proofs.Common.{◌≡◌, ◌∙◌}
use Rattle.error_audit.proofs.Evidenced.{set_is}
use Rattle.error_audit.proofs.io_causes.plan_of.Goals as goal

pub returns : goal.returns
returns c =
    c.set_of.ensures ∙ set_is c.args.script.now c.args.log.now c.args.tables.now c.requires.tables c.args.plans.now c.as_slice.result.now c.args.reply.now.call c.args.span.graph c.args.set c.as_slice.ensures.value c.requires.graph
