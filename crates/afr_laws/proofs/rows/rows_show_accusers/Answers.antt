use Rattle.afr_laws.proofs.Accusers.{rows_show_accusers}
use Rattle.afr_laws.proofs.rows.rows_show_accusers.Goals as goal

pub returns : goal.returns
returns c = rows_show_accusers
