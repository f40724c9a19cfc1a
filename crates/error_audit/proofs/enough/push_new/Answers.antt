use Rattle.std.proofs.Common.{◌≡◌}
use Rattle.error_audit.proofs.Different.{distinct_more}
use Rattle.error_audit.proofs.enough.push_new.Goals as goal

pub returns-clause-differ : goal.returns-clause-differ
returns-clause-differ c = λ yes d.
    distinct_more c.args.bricks.now.items c.push.new.self.items c.as_slice.result.now c.args.brick c.contains.result c.as_slice.ensures.value c.contains.ensures.value c.if-contains.false c.in_ok-push.ensures.items d
