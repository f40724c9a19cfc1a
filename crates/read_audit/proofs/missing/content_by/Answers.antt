use Rattle.std.proofs.lemmas.Option.{IfSome_then}
use Rattle.fop_types.specs.Cells.{names_cell}
use Rattle.read_audit.proofs.Absent.{somewhere}
use Rattle.read_audit.proofs.missing.content_by.Goals as goal

pub returns : goal.returns
returns c = IfSome_then c.in_ok-content.content c.in_ok-content.ensures (λ x fetched. somewhere c.args.run.now.script.now c.args.run.now.plans.now c.args.run.now.log.now c.args.run.now.bricks.now c.args.by.call c.args.by.number c.in-Some.set c.names_cell-cell.result (names_cell c.args.dir) x c.names_cell-cell.ensures fetched)
