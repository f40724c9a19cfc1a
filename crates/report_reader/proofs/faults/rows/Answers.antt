use Rattle.report_reader.proofs.FaultLaws.{row_shorter, rows_step}
use Rattle.report_reader.proofs.faults.rows.Goals as goal

pub loop-first-smaller : goal.loop-first-smaller
loop-first-smaller c = row_shorter _ _ _ c.in_ok-one.ensures

pub loop-first-preserved : goal.loop-first-preserved
loop-first-preserved c = rows_step _ _ _ _ _ _ _ _ c.in-Some.ensures c.in_ok-one.ensures c.in_ok-push.ensures c.loop-first.invariant
