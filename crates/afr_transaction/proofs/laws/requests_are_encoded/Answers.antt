use Rattle.afr_transaction.proofs.Bounds.{begins_bound, answers_bound, copies_bound, answers_few, copies_few}
use Rattle.afr_transaction.proofs.Encodings.{encoded}
use Rattle.afr_transaction.proofs.laws.requests_are_encoded.Goals as goal

pub returns-clause-begin : goal.returns-clause-begin
returns-clause-begin c = begins_bound

pub returns-clause-answers : goal.returns-clause-answers
returns-clause-answers c = answers_bound

pub returns-clause-copies : goal.returns-clause-copies
returns-clause-copies c = copies_bound

pub returns-clause-answers_leave : goal.returns-clause-answers_leave
returns-clause-answers_leave c = answers_few

pub returns-clause-copies_leave : goal.returns-clause-copies_leave
returns-clause-copies_leave c = copies_few

pub returns-clause-requests : goal.returns-clause-requests
returns-clause-requests c = encoded
