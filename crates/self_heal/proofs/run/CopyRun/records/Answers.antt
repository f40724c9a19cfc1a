use Rattle.self_heal.proofs.Pieces.{cell_more}
use Rattle.self_heal.proofs.run.CopyRun.records.Goals as goal

pub loop-c-preserved : goal.loop-c-preserved
loop-c-preserved c =
    cell_more c.args.self.now.rows c.args.self.now.origins c.args.sinks c.as_slice-cells.result.now c.loop-c.c _ c.loop-c.list.items c.push_cell.new.list.items _
    c.loop-c-test.true c.in_ok-push_cell.ensures c.loop-c.invariant
