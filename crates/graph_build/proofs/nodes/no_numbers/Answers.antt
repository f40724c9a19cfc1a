use Rattle.graph_build.proofs.NumberLemmas.{none_in}
use Rattle.graph_build.proofs.nodes.no_numbers.Goals as goal

pub returns-clause-none : goal.returns-clause-none
returns-clause-none c = λ q. none_in 256 q
