use Rattle.log_audit.proofs.Earlier.{low_later, low_next}
use Rattle.log_audit.proofs.timely.pass_to.Goals as goal

pub loop-now-init : goal.loop-now-init
loop-now-init c = low_later c.args.brick c.args.before c.args.number c.args.sent.now c.args.passed c.requires.later c.requires.low

pub loop-now-preserved : goal.loop-now-preserved
loop-now-preserved c =
    low_next c.args.brick c.args.number c.args.sent.now c.loop-now.now c.index-sent-now.result c.sent_to_it.result c.loop-now-test.true c.index-sent-now.is c.if-line-number.false
    c.sent_to_it.ensures.value c.sent_to_it.ensures.few c.loop-now.invariant
