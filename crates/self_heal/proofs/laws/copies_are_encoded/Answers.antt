use Rattle.self_heal.proofs.Encoded.{begin_encoded, answer_encoded}
use Rattle.self_heal.proofs.laws.copies_are_encoded.Goals as goal

pub returns-clause-begin : goal.returns-clause-begin
returns-clause-begin c = begin_encoded

pub returns-clause-answers : goal.returns-clause-answers
returns-clause-answers c = answer_encoded
