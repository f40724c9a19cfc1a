use Rattle.std.proofs.Common.{◌≡◌}
use Rattle.error_audit.proofs.grants.rows_arrived.Goals as goal

pub returns-in-None-clause-complete : goal.returns-in-None-clause-complete
returns-in-None-clause-complete c = λ rows h. let some = c.in_ok-came.ensures.complete h.output h.came in let none = c.in-None.is in absurd cc
