use Rattle.read_audit.proofs.Pages.{none_due}
use Rattle.read_audit.proofs.answers.is_part_due.Goals as goal

pub returns-then-keeps_pages : goal.returns-then-keeps_pages
returns-then-keeps_pages c = λ _ without.
    none_due c.args.run.now.script.now c.args.run.now.plans.now c.args.run.now.log.now c.args.run.now.graphs.now c.args.by.call c.args.by.graph c.args.run.now.graphs_are c.requires (c.keeps_pages.ensures c.if-keeps_pages.true) without
