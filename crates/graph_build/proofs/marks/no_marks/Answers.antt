use Rattle.graph_build.proofs.MarkLemmas.{at_none}
use Rattle.graph_build.proofs.marks.no_marks.Goals as goal

pub returns-clause-none : goal.returns-clause-none
returns-clause-none c = λ q. at_none 256 q
