use Rattle.self_heal.proofs.Turning.{begins, answers_on}
use Rattle.self_heal.proofs.laws.copies_go_on.Goals as goal

pub returns-clause-begin : goal.returns-clause-begin
returns-clause-begin c = begins

pub returns-clause-answers : goal.returns-clause-answers
returns-clause-answers c = answers_on
