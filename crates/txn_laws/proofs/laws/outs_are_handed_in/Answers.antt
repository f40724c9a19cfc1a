use Rattle.txn_laws.proofs.Known.{begins_out, answers_out, copies_out}
use Rattle.txn_laws.proofs.laws.outs_are_handed_in.Goals as goal

pub returns-clause-begin : goal.returns-clause-begin
returns-clause-begin c = begins_out

pub returns-clause-answers : goal.returns-clause-answers
returns-clause-answers c = answers_out

pub returns-clause-copies : goal.returns-clause-copies
returns-clause-copies c = copies_out
