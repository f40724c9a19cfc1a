use Rattle.dht_fops.proofs.Bounds.{fops_keep, fops_within, answers_bounded}
use Rattle.dht_fops.proofs.laws.fops_keep_bounds.Goals as goal

pub returns-clause-courses : goal.returns-clause-courses
returns-clause-courses c = fops_keep

pub returns-clause-fops : goal.returns-clause-fops
returns-clause-fops c = fops_within

pub returns-clause-answers : goal.returns-clause-answers
returns-clause-answers c = answers_bounded
