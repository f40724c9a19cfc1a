use Rattle.read_audit.proofs.Apart.{none_claimed, set_claimed}
use Rattle.read_audit.proofs.taken.take_set.Goals as goal

pub returns-in_default-clause-claimed : goal.returns-in_default-clause-claimed
returns-in_default-clause-claimed c = λ _. none_claimed c.args.log.now c.args.claims.now c.args.k c.args.from c.in_default.is

pub returns-clause-claimed : goal.returns-clause-claimed
returns-clause-claimed c = λ yes. set_claimed c.args.log.now c.take.new.self c.args.k c.key_of-key.result c.in-Some.set c.in-Some-entry_at.entry c.args.from c.in-Some-entry_at.ensures c.in-Some.is c.key_of-key.ensures (c.in_ok-did.ensures.taken yes)
