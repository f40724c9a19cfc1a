use Rattle.std.proofs.Common.{sym}
use Rattle.change_audit.proofs.Items.{none_within}
use Rattle.change_audit.proofs.Entries.{entry_claimed}
use Rattle.change_audit.proofs.changes.take_entry.Goals as goal

pub returns-clause-claimed : goal.returns-clause-claimed
returns-clause-claimed c = λ yes.
    entry_claimed c.args.script.now c.args.plans.now c.args.log.now c.args.bricks.now c.args.ops.now c.args.from.now c.take_due.new.claims c.args.k c.in-Some.entry c.in-Some-op_at.operation.now c.set_at-set.result c.in-Some.ensures
    c.in-Some-op_at.ensures c.set_at-set.ensures (c.in_ok-yes.ensures.claimed yes)

pub returns-in_default-clause-not_due : goal.returns-in_default-clause-not_due
returns-in_default-clause-not_due c = λ none lt op_lt. absurd (none_within c.args.log.now.history c.args.k c.in_default.ensures lt)

pub returns-in_default-op_at-clause-not_due : goal.returns-in_default-op_at-clause-not_due
returns-in_default-op_at-clause-not_due c = λ none lt op_lt. absurd (none_within c.args.ops.now c.args.k c.in_default-op_at.ensures op_lt)

pub returns-clause-not_due : goal.returns-clause-not_due
returns-clause-not_due c = λ none lt op_lt. c.in_ok-yes.ensures.not_due (none c.args.k c.in-Some.entry (sym c.in-Some.ensures))
