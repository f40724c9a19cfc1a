use Rattle.cell_store.proofs.Listed.{counts_change_listed}
use Rattle.cell_store.proofs.cell_laws.counts_change_the_listed.Goals as goal

pub returns-clause-counts : goal.returns-clause-counts
returns-clause-counts c = counts_change_listed
