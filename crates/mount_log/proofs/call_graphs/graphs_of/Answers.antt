use Rattle.std.proofs.Common.{◌+◌, drop}
use Rattle.mount_log.specs.Graphs.{switches_in, volfiles_of}
use Rattle.mount_log.proofs.Lists.{grown_by}
use Rattle.mount_log.proofs.call_graphs.graphs_of.Goals as goal

pub loop-event-preserved : goal.loop-event-preserved
loop-event-preserved c =
    let rest = switches_in (drop (c.loop-event.event-index + 1) c.args.log.now.events) in
    grown_by switches_in c.args.log.now.events c.as_slice-event-items.result.now c.loop-event.event-index c.event-item.result c.loop-event.volfiles.items c.push_graph.new.volfiles.items rest (volfiles_of c.args.script.now c.args.log.now)
    c.as_slice-event-items.ensures c.loop-event-test.true c.event-item.is (c.in_ok-push_graph.ensures rest) c.loop-event.invariant
