use Rattle.self_heal.proofs.Pieces.{five_pieces}
use Rattle.self_heal.proofs.run.CopyRun.push_cell.Goals as goal

pub returns : goal.returns
returns c = five_pieces c.args.list.now.items _ _ _ _ _ _ _ _ _ _ c.in_ok-push_record.ensures c.in_ok-push_record-2.ensures c.in_ok-push_record-3.ensures c.in_ok-push_record-4.ensures c.in_ok-push_record-5.ensures
