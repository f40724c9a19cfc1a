use Rattle.std.proofs.Common.{ap, arith}
use Rattle.mount_log.specs.declared.logs.SentLine.{SentLine}
use Rattle.line_audit.proofs.Firsts.{before_next}
use Rattle.line_audit.proofs.downs.skip_to.Goals as goal

pub loop-now-preserved : goal.loop-now-preserved
loop-now-preserved c = λ before.
    let same = ap (λ (l : SentLine). l.event) c.index-sent-now.is in
    before_next c.args.sent.now c.loop-now.now c.args.number c.index-sent-now.result c.loop-now-test.true c.index-sent-now.is (omega (arith, same)) (c.loop-now.invariant before)
