use Rattle.std.proofs.Common.{◌+◌, drop}
use Rattle.mount_log.proofs.Lists.{grown}
use Rattle.line_audit.specs.Linked.{without_number}
use Rattle.line_audit.proofs.known.without_number.Goals as goal

pub loop-one-preserved : goal.loop-one-preserved
loop-one-preserved c =
    let rest = without_number c.args.number (drop (c.loop-one.one-index + 1) c.args.numbers.now) in
    grown (without_number c.args.number) c.args.numbers.now c.loop-one.one-index _ c.loop-one.kept.items c.keep_unless.new.kept.items rest (without_number c.args.number c.args.numbers.now) c.loop-one-test.true
    (c.in_ok-keep_unless.ensures rest) c.loop-one.invariant
