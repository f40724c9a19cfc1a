use Rattle.std.proofs.Common.{◌+◌, drop}
use Rattle.mount_log.proofs.Lists.{grown}
use Rattle.line_audit.specs.Linked.{without_brick}
use Rattle.line_audit.proofs.links.without_brick.Goals as goal

pub loop-link-preserved : goal.loop-link-preserved
loop-link-preserved c =
    let rest = without_brick c.args.brick (drop (c.loop-link.link-index + 1) c.args.links.now) in
    grown (without_brick c.args.brick) c.args.links.now c.loop-link.link-index _ c.loop-link.kept.items c.keep_unless.new.kept.items rest (without_brick c.args.brick c.args.links.now) c.loop-link-test.true
    (c.in_ok-keep_unless.ensures rest) c.loop-link.invariant
