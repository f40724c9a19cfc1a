use Rattle.dht_laws.proofs.Accepted.{flat_answers}
use Rattle.dht_laws.proofs.EndingsOfFops.{fops_answer}
use Rattle.dht_laws.proofs.laws.fops_answer_changes.Goals as goal

pub returns-clause-fops : goal.returns-clause-fops
returns-clause-fops c = fops_answer

pub returns-clause-flat : goal.returns-clause-flat
returns-clause-flat c = flat_answers
