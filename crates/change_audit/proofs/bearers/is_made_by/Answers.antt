use Rattle.std.proofs.Common.{◌≡◌, sym, subst}
use Rattle.std.specs.Prelude.{Some}
use Rattle.fop_types.specs.declared.store_ops.StoreOp.{StoreOp}
use Rattle.dht_fops.specs.Answers.{change_of}
use Rattle.change_audit.proofs.Requests.{one_op}
use Rattle.change_audit.proofs.bearers.is_made_by.Goals as goal

pub returns-in-Some-clause-complete : goal.returns-in-Some-clause-complete
returns-in-Some-clause-complete c = λ making.
    c.makes.ensures.1
    (subst (λ (o : StoreOp). change_of o ≡ Some c.args.operation.now) (one_op c.args.graph c.args.change making.op c.in-Some.op.now c.args.input.now making.asked c.in-Some.ensures.found) making.op_is)

pub returns-in-None-clause-complete : goal.returns-in-None-clause-complete
returns-in-None-clause-complete c = λ making. absurd (c.in-None.ensures.none making.op making.asked)
