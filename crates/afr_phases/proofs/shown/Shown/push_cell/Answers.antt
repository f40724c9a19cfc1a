use Rattle.afr_phases.proofs.Rows.{five_pieces}
use Rattle.afr_phases.proofs.shown.Shown.push_cell.Goals as goal

pub returns : goal.returns
returns c = five_pieces c.args.list.now.items _ _ _ _ _ _ _ _ _ _ c.in_ok-push_row.ensures c.in_ok-push_row-2.ensures c.in_ok-push_row-3.ensures c.in_ok-push_row-4.ensures c.in_ok-push_row-5.ensures
